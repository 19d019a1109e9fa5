use Rattle.std.proofs.Common.{◌≡◌, take, map}
use Rattle.cut_plans.specs.Told.{face_of}
use Rattle.cut_plans.proofs.told.faces_of.Given as goal

abbrev pub invariant-loop-side : goal.invariant-loop-side
invariant-loop-side l = l.faces.items ≡ map (face_of l.base l.old l.new) (take l.side-index l.sides)
