use Rattle.std.proofs.Common.{◌≡◌, map, take}
use Rattle.edit_ops.specs.Moving.{carried}
use Rattle.edit_ops.proofs.faces.carried_faces.Given as goal

abbrev pub invariant-loop-face : goal.invariant-loop-face
invariant-loop-face l = l.moved.items ≡ map (carried l.lock l.motion) (take l.face-index l.faces)
