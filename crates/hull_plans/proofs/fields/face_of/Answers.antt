use Rattle.std.proofs.Common.{refl, ◌∙◌}
use Rattle.map_model.specs.Brushes.{have_one_half_space}
use Rattle.brush_plans.proofs.Lists.{is_member}
use Rattle.hull_plans.proofs.FirstFaces.{found, passed_over, not_found, same_is, face_bound}
use Rattle.hull_plans.proofs.fields.face_of.Goals as goal

pub loop-face-init : goal.loop-face-init
loop-face-init c = record { rest = refl }

pub loop-face-preserved : goal.loop-face-preserved
loop-face-preserved c =
    let i = is_member c.args.faces.now c.loop-face.face-index c.face-item.result c.loop-face-test.true c.face-item.is in
    passed_over (λ f. have_one_half_space f.plane c.args.plane) c.args.faces.now c.loop-face.face-index c.face-item.result c.loop-face-test.true c.face-item.is c.loop-face.invariant
    (same_is c.same_halfspace.result c.face-item.result.plane c.args.plane (face_bound c.args.faces.now c.requires.proper c.face-item.result i) c.requires.bound c.same_halfspace.ensures ∙ c.if-same_halfspace.false)

pub returns-then-same_halfspace : goal.returns-then-same_halfspace
returns-then-same_halfspace c =
    let i = is_member c.args.faces.now c.loop-face.face-index c.face-item.result c.loop-face-test.true c.face-item.is in
    found (λ f. have_one_half_space f.plane c.args.plane) c.args.faces.now c.loop-face.face-index c.face-item.result c.loop-face-test.true c.face-item.is c.loop-face.invariant
    (same_is c.same_halfspace.result c.face-item.result.plane c.args.plane (face_bound c.args.faces.now c.requires.proper c.face-item.result i) c.requires.bound c.same_halfspace.ensures ∙ c.if-same_halfspace.true)

pub returns : goal.returns
returns c = not_found (λ f. have_one_half_space f.plane c.args.plane) c.args.faces.now c.loop-face.face-index c.loop-face-test.false c.loop-face.invariant
