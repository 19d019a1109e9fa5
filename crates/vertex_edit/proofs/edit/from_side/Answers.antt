use Rattle.std.proofs.Common.{length, ap, ◌∙◌, sym, subst}
use Rattle.std.proofs.lemmas.List.{length-map}
use Rattle.solid_brush.specs.Sides.{bounds, half_spaces}
use Rattle.vertex_edit.specs.Carrying.{carry, onto, IsFullest}
use Rattle.vertex_edit.proofs.Fullest.{old_of}
use Rattle.vertex_edit.proofs.edit.from_side.Goals as goal

pub returns : goal.returns
returns c =
    let F = half_spaces c.args.old.now in let vs = carry c.args.vertices.now c.args.places.now in let n = length c.args.old.now in
    let e = c.deref.ensures.value ∙ c.in_ok-carried.ensures ∙ ap (λ g. onto g vs) c.face_of-face.ensures in
    record {
      points = c.points.ensures.points;
      old = old_of F vs (bounds c.args.side.now) n c.old_face.result (subst (λ W. IsFullest F W n c.old_face.result) e c.old_face.ensures) (sym (length-map c.args.old.now bounds));
    }
