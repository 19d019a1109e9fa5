use Rattle.brush_plans.proofs.new_faces.plain_face.Goals as goal

pub in_format-requires : goal.in_format-requires
in_format-requires c = record { plain = c.plain_tex.ensures c.args.plane }
