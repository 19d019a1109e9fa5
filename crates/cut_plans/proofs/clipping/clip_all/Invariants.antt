use Rattle.map_model.specs.Tree.{whole}
use Rattle.map_model.specs.Below.{Below, IsRight}
use Rattle.cut_plans.proofs.ClippedLists.{Clipping}
use Rattle.cut_plans.proofs.clipping.clip_all.Given as goal

abbrev pub invariant-loop-id : goal.invariant-loop-id
invariant-loop-id l = (b : Below) → IsRight b → Clipping (whole l.map) l.cut l.part l.ids l.id-index l.clipped.items b
