use Rattle.std.proofs.Common.{ap, ◌∙◌}
use Rattle.solid_brush.specs.Sides.{half_spaces as of_sides}
use Rattle.loop_laws.proofs.Faces.{same_spaces}
use Rattle.obj_export.proofs.Pieces.{adds_lines}
use Rattle.obj_export.proofs.brushes.put_lines.Goals as goal

pub returns : goal.returns
returns c =
    adds_lines c.put_faces.result c.args.body.now (of_sides c.solid.result.now) c.args.before c.args.text.now.items c.put_vertices.new.text.items
    c.put_faces.new.text.items (ap of_sides c.solid.ensures.sides ∙ same_spaces 0 c.args.body.now) c.in_ok-put_vertices.ensures c.put_faces.ensures
