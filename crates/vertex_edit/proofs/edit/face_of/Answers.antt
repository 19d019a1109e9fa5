use Rattle.std.proofs.Common.{get_or, sym, subst, ap, ◌∙◌, IsTrue}
use Rattle.algebra.specs.Space.{through}
use Rattle.exact_geom.specs.Planes.{is_in_range, vector}
use Rattle.exact_geom.proofs.PlaneLaws.{good_points}
use Rattle.hull_merge.specs.Hulls.{zero_point}
use Rattle.vertex_edit.proofs.edit.face_of.Goals as goal

pub spot_of-requires : goal.spot_of-requires
spot_of-requires c = subst (λ l. IsTrue (is_in_range (get_or l 0 zero_point))) (sym c.points-points.ensures.points) (good_points c.args.plane.now c.points-points.ensures.plane).first

pub spot_of-requires-2 : goal.spot_of-requires-2
spot_of-requires-2 c = subst (λ l. IsTrue (is_in_range (get_or l 1 zero_point))) (sym c.points-points.ensures.points) (good_points c.args.plane.now c.points-points.ensures.plane).second

pub spot_of-requires-3 : goal.spot_of-requires-3
spot_of-requires-3 c = subst (λ l. IsTrue (is_in_range (get_or l 2 zero_point))) (sym c.points-points.ensures.points) (good_points c.args.plane.now c.points-points.ensures.plane).third

pub returns : goal.returns
returns c =
    let e = c.points-points.ensures.points in
    let a = c.spot_of.ensures ∙ ap (λ l. vector (get_or l 0 zero_point)) e in
    let b = c.spot_of-2.ensures ∙ ap (λ l. vector (get_or l 1 zero_point)) e in
    let d = c.spot_of-3.ensures ∙ ap (λ l. vector (get_or l 2 zero_point)) e in
    c.through.ensures ∙ (λ i. through (a i) (b i) (d i))
