use Rattle.map_model.specs.Tree.{whole, at}
use Rattle.edit_ops.specs.Moving.{points_of}
use Rattle.brush_plans.proofs.RowLoops.{Passed}
use Rattle.edit_ops.proofs.motion_rows.points.Given as goal

abbrev pub invariant-loop-id : goal.invariant-loop-id
invariant-loop-id l = Passed (λ n. points_of l.motion n (at (whole l.map) n)) l.ids l.id-index
