use Rattle.map_model.specs.Tree.{whole}
use Rattle.map_model.specs.Below.{Below, IsRight}
use Rattle.brush_plans.proofs.RowLoops.{Passed}
use Rattle.cut_plans.specs.Subtracts.{apart_row}
use Rattle.cut_plans.proofs.subtracting.refuse_apart.Given as goal

abbrev pub invariant-loop-id : goal.invariant-loop-id
invariant-loop-id l = (b : Below) → IsRight b → Passed (λ n. apart_row (whole l.map) l.cutter.body n b) l.ids l.id-index
