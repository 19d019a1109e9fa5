use Rattle.std.proofs.Common.{◌≡◌, ap, sym, ◌∙◌}
use Rattle.std.specs.Prelude.{option_copied}
use Rattle.map_model.specs.Tree.{whole}
use Rattle.map_model.specs.Rows.{plain_face, all_faces, fields_for}
use Rattle.hull_plans.proofs.FirstFaces.{if_ok, given_fields, plain_fields}
use Rattle.hull_plans.proofs.fields.face_on.Goals as goal

pub returns-in-Some : goal.returns-in-Some
returns-in-Some c =
    let s = c.args.set.now in
    let m = whole c.args.map.now in
    let all = all_faces m c.args.ids.now in
    if_ok (λ f. f ≡ record c.in-Some.face.now { plane = c.args.plane }) (λ f. f ≡ fields_for s m all c.args.plane)
    (given_fields s m all c.args.plane c.in-Some.face.now (sym (ap option_copied c.in-Some.is) ∙ c.face_of_brushes.ensures)) c.moved_to.result c.moved_to.ensures

pub returns-in-None : goal.returns-in-None
returns-in-None c =
    let s = c.args.set.now in
    let m = whole c.args.map.now in
    let all = all_faces m c.args.ids.now in
    if_ok (λ f. f ≡ plain_face s m c.args.plane) (λ f. f ≡ fields_for s m all c.args.plane)
    (plain_fields s m all c.args.plane (sym (ap option_copied c.in-None.is) ∙ c.face_of_brushes.ensures)) c.plain_face.result c.plain_face.ensures
