use Rattle.map_write.proofs.WriteLemmas.{face_written}
use Rattle.map_write.proofs.face_writer.write_face.Goals as goal

pub returns : goal.returns
returns c =
    rw (
      c.in_ok-push-5.ensures.items,
      c.in_ok-write_texture.ensures,
      c.in_ok-push-4.ensures.items,
      c.in_ok-write_material.ensures,
      c.bytes.ensures,
      c.in_ok-push-3.ensures.items,
      c.in_ok-write_point-3.ensures,
      c.in_ok-push-2.ensures.items,
      c.in_ok-write_point-2.ensures,
      c.in_ok-push.ensures.items,
      c.in_ok-write_point.ensures,
      c.points.ensures.points,
    )
    (face_written c.args.face.now c.args.text.now.items)
