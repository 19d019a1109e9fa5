use Rattle.std.proofs.Common.{◌≡◌, ◌^◌, take, map}
use Rattle.cut_plans.specs.Told.{faces_of}
use Rattle.hollow_plans.proofs.walls.bodies.Given as goal

abbrev pub invariant-loop-solid : goal.invariant-loop-solid
invariant-loop-solid l = l.bodies.items ≡ map (faces_of (2 ^ 30) l.body l.body) (take l.solid-index l.solids)
