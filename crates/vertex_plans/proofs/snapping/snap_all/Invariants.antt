use Rattle.map_model.specs.Tree.{whole}
use Rattle.map_model.specs.Below.{Below, IsRight}
use Rattle.vertex_plans.proofs.SnapLists.{Snapping}
use Rattle.vertex_plans.proofs.snapping.snap_all.Given as goal

abbrev pub invariant-loop-id : goal.invariant-loop-id
invariant-loop-id l = (b : Below) → IsRight b → Snapping (whole l.map) l.grid l.ids l.id-index l.list.items b
