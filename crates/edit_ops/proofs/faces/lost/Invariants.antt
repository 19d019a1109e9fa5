use Rattle.edit_ops.specs.Moving.{lost_of}
use Rattle.edit_ops.proofs.FaceLoops.{PassedFaces}
use Rattle.edit_ops.proofs.faces.lost.Given as goal

abbrev pub invariant-loop-place : goal.invariant-loop-place
invariant-loop-place l = PassedFaces (lost_of l.motion l.id) l.faces l.place
