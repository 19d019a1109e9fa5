use Rattle.std.specs.Prelude.{◌||◌}
use Rattle.std.specs.List.{list_any}
use Rattle.map_model.specs.Tree.{whole, lies_beneath}
use Rattle.tree_ops.specs.Passing.{is_place_beneath_it}
use Rattle.map_model.specs.Replies.{NestedIds}
use Rattle.tree_ops.proofs.RowLoops.{Passed}
use Rattle.tree_ops.proofs.rows.nested_ids.Given as goal

abbrev pub invariant-loop-id : goal.invariant-loop-id
invariant-loop-id l = Passed (λ n. list_any (lies_beneath (whole l.map) n) l.ids || is_place_beneath_it (whole l.map) l.place n) NestedIds l.ids l.id-index
