use Rattle.map_model.specs.Tree.{whole}
use Rattle.hull_plans.proofs.CornerPoints.{Gathering}
use Rattle.hull_plans.proofs.corners.corners_of.Given as goal

abbrev pub invariant-loop-id : goal.invariant-loop-id
invariant-loop-id l = Gathering (whole l.map) l.ids l.id-index l.all.items
