use Rattle.map_model.specs.Tree.{whole, at}
use Rattle.map_model.specs.Below.{Below, IsRight}
use Rattle.edit_ops.specs.Moving.{world_of}
use Rattle.brush_plans.proofs.RowLoops.{Passed}
use Rattle.edit_ops.proofs.motion_rows.world.Given as goal

abbrev pub invariant-loop-id : goal.invariant-loop-id
invariant-loop-id l = (b : Below) → IsRight b → Passed (λ n. world_of l.motion n (at (whole l.map) n) b) l.ids l.id-index
