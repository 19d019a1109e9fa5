use Rattle.std.proofs.Common.{◌≡◌, ◌++◌, take}
use Rattle.std.specs.Prelude.{flat_map}
use Rattle.map_model.specs.Tree.{whole}
use Rattle.map_model.specs.Listings.{tree_line_at}
use Rattle.tree_session.proofs.tree_listing.put_nodes.Given as goal

abbrev pub invariant-loop-id : goal.invariant-loop-id
invariant-loop-id l = l.listing ≡ l.fn.listing ++ flat_map (tree_line_at (whole l.map)) (take l.id-index l.ids)
