use Rattle.std.proofs.Common.{◌+◌, length, ap, refl, subst, ◌∙◌}
use Rattle.solid_laws.specs.FaceLoop.{HasVertexCount}
use Rattle.solid_brush.specs.Sides.{half_spaces as of_sides}
use Rattle.loop_laws.proofs.Faces.{same_spaces, valid_faces}
use Rattle.obj_export.specs.Adding.{obj_at}
use Rattle.obj_export.proofs.Counting.{still_counted, brush_added}
use Rattle.obj_export.proofs.brushes.add_brush.Goals as goal

pub returns-clause-added : goal.returns-clause-added
returns-clause-added c =
    let fs = c.args.body.now in
    brush_added fs c.vertex_count.result (obj_at c.args.text.now.items c.args.counts.now)
    (obj_at c.put_lines.new.text.items (record {
      brushes = c.args.counts.now.brushes + 1;
      vertices = c.args.counts.now.vertices + c.from.result;
      faces = c.args.counts.now.faces + length c.faces.result.now;
    }))
    (valid_faces fs c.is_valid.ensures.brush)
    (subst (λ F. HasVertexCount F c.vertex_count.result) (ap of_sides c.solid.ensures.sides ∙ same_spaces 0 fs) c.vertex_count.ensures.count)
    c.in_ok-put_lines.ensures refl (ap (λ n. c.args.counts.now.vertices + n) c.from.ensures) (ap (λ l. c.args.counts.now.faces + length l) c.faces.ensures.faces)

pub returns-clause-counted : goal.returns-clause-counted
returns-clause-counted c =
    let fs = c.args.body.now in
    still_counted fs c.vertex_count.result (obj_at c.args.text.now.items c.args.counts.now)
    (obj_at c.put_lines.new.text.items (record {
      brushes = c.args.counts.now.brushes + 1;
      vertices = c.args.counts.now.vertices + c.from.result;
      faces = c.args.counts.now.faces + length c.faces.result.now;
    }))
    (valid_faces fs c.is_valid.ensures.brush)
    (subst (λ F. HasVertexCount F c.vertex_count.result) (ap of_sides c.solid.ensures.sides ∙ same_spaces 0 fs) c.vertex_count.ensures.count)
    c.in_ok-put_lines.ensures refl (ap (λ n. c.args.counts.now.vertices + n) c.from.ensures) (ap (λ l. c.args.counts.now.faces + length l) c.faces.ensures.faces)
    c.requires.counted
