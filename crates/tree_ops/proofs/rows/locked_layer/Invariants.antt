use Rattle.map_model.specs.Tree.{whole}
use Rattle.map_model.specs.Rows.{is_in_frozen}
use Rattle.map_model.specs.Replies.{LockedLayer}
use Rattle.tree_ops.proofs.RowLoops.{Passed}
use Rattle.tree_ops.proofs.rows.locked_layer.Given as goal

abbrev pub invariant-loop-id : goal.invariant-loop-id
invariant-loop-id l = Passed (is_in_frozen (whole l.map)) LockedLayer l.ids l.id-index
