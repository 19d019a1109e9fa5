use Rattle.std.proofs.Common.{sym}
use Rattle.map_write.specs.Written.{face_line, kept}
use Rattle.map_write.proofs.WriteLemmas.{each_left, each_done}
use Rattle.map_write.proofs.brush_writer.write_faces.Goals as goal

pub loop-face-preserved : goal.loop-face-preserved
loop-face-preserved c =
    rw c.in_ok-write_face.ensures
    (each_left (face_line kept) c.args.text.now.items c.args.faces.now c.loop-face.face-index c.loop-face.text.items c.face-item.result c.face-item.result c.loop-face-test.true (sym c.face-item.is) c.loop-face.invariant)

pub returns : goal.returns
returns c =
    each_done (face_line kept) c.args.text.now.items c.args.faces.now c.loop-face.face-index c.loop-face.text.items c.loop-face-test.false c.loop-face.invariant
