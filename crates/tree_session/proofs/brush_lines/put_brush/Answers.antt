use Rattle.std.proofs.Common.{◌≡◌, ◌++◌, length, ap, subst, ◌∙◌}
use Rattle.std.specs.Fmt.{decimal}
use Rattle.solid_laws.specs.FaceLoop.{HasVertexCount}
use Rattle.solid_brush.specs.Sides.{half_spaces as of_sides}
use Rattle.tree_session.proofs.Lines.{adds_brush, brush_first}
use Rattle.loop_laws.proofs.Faces.{same_spaces, valid_faces}
use Rattle.tree_session.proofs.brush_lines.put_brush.Goals as goal

pub returns : goal.returns
returns c =
    let fs = c.args.body.now in let count = c.vertex_count.result in
    let first : c.number-2.new.self ≡ c.put.new.self ++ decimal c.args.id = cc (c.in_ok-number.ensures, c.from.ensures, c.number.ensures) in
    let second : c.number-3.new.self ≡ c.put-2.new.self ++ decimal (length fs) = cc (c.in_ok-number-2.ensures, c.faces.ensures.faces) in
    let third : c.number-4.new.self ≡ c.put-3.new.self ++ decimal count = cc (c.in_ok-number-3.ensures, c.from-2.ensures) in
    adds_brush c.put_faces.result c.args.id fs count c.args.listing.now c.put-4.new.self c.put_faces.new.listing
    (valid_faces fs c.is_valid.ensures.brush)
    (subst (λ F. HasVertexCount F count) (ap of_sides c.solid.ensures.sides ∙ same_spaces 0 fs) c.vertex_count.ensures.count)
    (brush_first c.args.listing.now c.put.new.self c.number-2.new.self c.put-2.new.self c.number-3.new.self c.put-3.new.self c.number-4.new.self c.put-4.new.self
    (decimal c.args.id) (decimal (length fs)) (decimal count)
    c.in_ok-put.ensures first c.in_ok-put-2.ensures second c.in_ok-put-3.ensures third c.in_ok-put-4.ensures)
    c.put_faces.ensures
