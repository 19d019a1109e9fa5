use Rattle.map_model.specs.Tree.{whole}
use Rattle.map_model.specs.Below.{Below, IsRight}
use Rattle.hollow_plans.proofs.HollowedLists.{Hollowing}
use Rattle.hollow_plans.proofs.walls.hollow_all.Given as goal

abbrev pub invariant-loop-id : goal.invariant-loop-id
invariant-loop-id l = (b : Below) → IsRight b → Hollowing (whole l.map) l.fn.thickness l.ids l.id-index l.hollowed.items b
