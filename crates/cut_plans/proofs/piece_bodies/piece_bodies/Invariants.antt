use Rattle.std.proofs.Common.{◌≡◌, take, map}
use Rattle.cut_plans.specs.Told.{faces_of}
use Rattle.cut_plans.proofs.piece_bodies.piece_bodies.Given as goal

abbrev pub invariant-loop-solid : goal.invariant-loop-solid
invariant-loop-solid l = l.bodies.items ≡ map (faces_of 128 l.old l.new) (take l.solid-index l.solids)
