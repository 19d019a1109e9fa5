use Rattle.std.proofs.Common.{get_or, refl, ap, sym, ◌∙◌, arith}
use Rattle.tree_file.proofs.SavedParts.{join_more}
use Rattle.tree_file.proofs.props.joined.Goals as goal

pub loop-k-preserved : goal.loop-k-preserved
loop-k-preserved c =
    let keys = c.args.keys.now in
    let k = c.loop-k.k in
    let is = c.bytes.ensures ∙ c.index-keys-k.is ∙ ap (get_or keys k) (sym c.bytes.ensures) in
    c.in_ok-push_key.ensures
    ∙ join_more keys k c.bytes.result.now c.loop-k.text.items _ (omega arith) is refl c.loop-k.invariant
