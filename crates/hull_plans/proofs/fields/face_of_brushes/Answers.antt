use Rattle.std.proofs.Common.{refl, ap, sym, subst, ◌∙◌}
use Rattle.std.specs.Prelude.{option_copied}
use Rattle.trim_laws.specs.Solid.{Proper}
use Rattle.map_model.specs.Shape.{half_spaces}
use Rattle.map_model.specs.Tree.{whole}
use Rattle.brush_plans.proofs.Lists.{is_member}
use Rattle.cut_plans.proofs.Pieces.{brush_proper}
use Rattle.hull_plans.proofs.FirstFaces.{that_face, no_face, nowhere}
use Rattle.hull_plans.proofs.fields.face_of_brushes.Goals as goal

pub loop-id-init : goal.loop-id-init
loop-id-init c = record { rest = refl }

pub body_at-body-requires : goal.body_at-body-requires
body_at-body-requires c = record { brush = c.requires.brushes c.id-item.result (is_member c.args.ids.now c.loop-id.id-index c.id-item.result c.loop-id-test.true c.id-item.is) }

pub face_of-requires-clause-proper : goal.face_of-requires-clause-proper
face_of-requires-clause-proper c = subst (λ l. Proper (half_spaces l)) (sym c.faces.ensures.faces) (brush_proper c.body_at-body.result.now c.is_valid.ensures)

pub loop-id-preserved : goal.loop-id-preserved
loop-id-preserved c =
    no_face (whole c.args.map.now) c.args.ids.now c.args.plane c.loop-id.id-index c.id-item.result c.faces.result.now c.loop-id-test.true c.id-item.is c.loop-id.invariant
    (c.faces.ensures.faces ∙ c.body_at-body.ensures) (sym (ap option_copied c.in_default.is) ∙ c.face_of.ensures)

pub returns-in-Some : goal.returns-in-Some
returns-in-Some c =
    that_face (whole c.args.map.now) c.args.ids.now c.args.plane c.loop-id.id-index c.id-item.result c.faces.result.now c.loop-id-test.true c.id-item.is c.loop-id.invariant
    (c.faces.ensures.faces ∙ c.body_at-body.ensures) c.in-Some.found.now (sym (ap option_copied c.in-Some.is) ∙ c.face_of.ensures)

pub returns : goal.returns
returns c = nowhere (whole c.args.map.now) c.args.ids.now c.args.plane c.loop-id.id-index c.loop-id-test.false c.loop-id.invariant
