use Rattle.map_model.specs.Tree.{whole}
use Rattle.map_model.specs.Below.{Below, IsRight}
use Rattle.brush_plans.proofs.RowLoops.{Passed}
use Rattle.cut_plans.specs.Clips.{misses}
use Rattle.cut_plans.proofs.clipping.refuse_missed.Given as goal

abbrev pub invariant-loop-id : goal.invariant-loop-id
invariant-loop-id l = (b : Below) → IsRight b → Passed (λ n. misses (whole l.map) l.cut n b) l.ids l.id-index
