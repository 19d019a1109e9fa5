use Rattle.std.proofs.Common.{◌≡◌, ◌++◌, take}
use Rattle.cut_plans.proofs.intersecting.push_faces.Given as goal

abbrev pub invariant-loop-face : goal.invariant-loop-face
invariant-loop-face l = l.list.items ≡ l.fn.list.items ++ take l.face-index l.faces
