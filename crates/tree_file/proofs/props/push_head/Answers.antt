use Rattle.tree_file.proofs.SavedParts.{four_pushed}
use Rattle.tree_file.proofs.props.push_head.Goals as goal

pub returns : goal.returns
returns c =
    four_pushed c.args.pairs.now.items c.push_pair.new.pairs.items c.push_pair-2.new.pairs.items c.push_pair-3.new.pairs.items c.push_number.new.pairs.items _ _ _ _
    c.in_ok-push_pair.ensures c.in_ok-push_pair-2.ensures c.in_ok-push_pair-3.ensures c.in_ok-push_number.ensures
