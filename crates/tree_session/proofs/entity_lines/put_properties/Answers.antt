use Rattle.std.proofs.Common.{◌∷◌, ◌++◌, [], length, arith}
use Rattle.std.specs.Prelude.{codes}
use Rattle.std.specs.Fmt.{decimal}
use Rattle.map_model.specs.Listings.{line}
use Rattle.tree_session.proofs.Lines.{one_pair_more}
use Rattle.tree_session.proofs.entity_lines.put_properties.Goals as goal

pub loop-k-preserved : goal.loop-k-preserved
loop-k-preserved c =
    one_pair_more c.args.protected.now c.args.props.now c.loop-k.k
    (c.args.listing.now ++ line (codes "entity" ∷ decimal c.args.id ∷ decimal (length c.args.props.now) ∷ []))
    c.loop-k.listing c.put_pair_at.new.listing (omega arith) c.loop-k.invariant c.in_ok-put_pair_at.ensures
