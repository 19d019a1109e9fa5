use Rattle.std.proofs.Common.{◌≡◌, take, map}
use Rattle.map_model.specs.Commands.{point_in}
use Rattle.vertex_plans.proofs.points.points.Given as goal

abbrev pub invariant-loop-three : goal.invariant-loop-three
invariant-loop-three l = l.points.items ≡ map point_in (take l.three-index l.three-items)
