use Rattle.std.proofs.Common.{◌≡◌, ◌++◌, ◌∷◌, [], length, take}
use Rattle.std.specs.Prelude.{flat_map, codes}
use Rattle.std.specs.Fmt.{decimal}
use Rattle.map_model.specs.Listings.{line, pair_line}
use Rattle.tree_session.proofs.entity_lines.put_properties.Given as goal

abbrev pub invariant-loop-k : goal.invariant-loop-k
invariant-loop-k l =
    l.listing ≡ (l.fn.listing ++ line (codes "entity" ∷ decimal l.fn.id ∷ decimal (length l.props) ∷ [])) ++ flat_map (pair_line l.protected) (take l.k l.props)
