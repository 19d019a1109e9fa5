use Rattle.std.proofs.Common.{◌<◌, ◌≤◌, subst}
use Rattle.half_poly.specs.Shapes.{Tagged}
use Rattle.solid_brush.proofs.Faces.{is_there, side_more, sides_all}
use Rattle.solid_brush.proofs.cutting.sides_of.Goals as goal

pub unreachable-requires : goal.unreachable-requires
unreachable-requires c = is_there (λ (s : Tagged). s.plane) c.args.poly.now c.loop-face.face c.plane.result c.plane.ensures.plane (subst (λ n. c.loop-face.face < n) c.faces-face-end.ensures.count c.loop-face-test.true) c.in_default.is

pub unreachable-requires-in_default-tag : goal.unreachable-requires-in_default-tag
unreachable-requires-in_default-tag c = is_there (λ (s : Tagged). s.tag) c.args.poly.now c.loop-face.face c.tag.result c.tag.ensures.tag (subst (λ n. c.loop-face.face < n) c.faces-face-end.ensures.count c.loop-face-test.true) c.in_default-tag.is

pub loop-face-preserved : goal.loop-face-preserved
loop-face-preserved c = side_more c.args.poly.now c.loop-face.face c.in-Some.plane c.in-Some-tag.tag c.plane.result c.tag.result c.loop-face.sides.items c.push.new.self.items
    (subst (λ n. c.loop-face.face < n) c.faces-face-end.ensures.count c.loop-face-test.true) c.plane.ensures.plane c.in-Some.is c.tag.ensures.tag c.in-Some-tag.is c.in_ok-push.ensures.items c.loop-face.invariant

pub returns : goal.returns
returns c = sides_all c.args.poly.now c.loop-face.face c.loop-face.sides.items (subst (λ n. n ≤ c.loop-face.face) c.faces-face-end.ensures.count c.loop-face-test.false) c.loop-face.invariant
