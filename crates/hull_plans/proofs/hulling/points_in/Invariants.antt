use Rattle.std.proofs.Common.{◌≡◌, map, take}
use Rattle.map_model.specs.Commands.{point_in}
use Rattle.hull_plans.proofs.hulling.points_in.Given as goal

abbrev pub invariant-loop-numbers : goal.invariant-loop-numbers
invariant-loop-numbers l = l.points.items ≡ map point_in (take l.numbers-index l.list)
