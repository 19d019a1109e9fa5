use Rattle.std.proofs.Common.{refl, Some, ap, sym, subst, ◌∙◌}
use Rattle.std.specs.Prelude.{IsNone}
use Rattle.algebra.specs.Members.{Every}
use Rattle.algebra.specs.World.{InCube, world}
use Rattle.hull_merge.specs.Gathered.{HasWeight}
use Rattle.map_model.specs.Tree.{whole}
use Rattle.map_model.specs.Replies.{FractionalVertex}
use Rattle.hull_plans.specs.Merges.{AreCornersAt}
use Rattle.hull_plans.proofs.CornerPoints.{corners_are, fraction_is}
use Rattle.hull_plans.proofs.corners.corners_at.Goals as goal

pub whole_points-requires : goal.whole_points-requires
whole_points-requires c = subst (Every (InCube world)) (sym c.deref.ensures.value) c.in_ok-vertices.ensures.world

pub returns-in-Some : goal.returns-in-Some
returns-in-Some c =
    let m = whole c.args.map.now in
    let some = rw c.in-Some.is at c.in_ok-found.ensures.some in
    subst (AreCornersAt m c.args.id) (sym c.of.ensures)
    (corners_are m c.args.id c.body_at-body.result.now c.solid.result.now c.in_ok-vertices.vertices.items c.body_at-body.ensures c.is_valid.ensures c.solid.ensures.sides c.in_ok-vertices.ensures.vertices
    c.in-Some.points.items (some ∙ c.deref.ensures.value) c.in_ok-vertices.ensures.world c.in_ok-vertices.ensures.few)

pub returns : goal.returns
returns c = λ b right.
    let none = subst (λ o. IsNone o → HasWeight c.deref.result.now) c.in-None.is c.in_ok-found.ensures.none in
    fraction_is (whole c.args.map.now) c.args.id c.body_at-body.result.now c.solid.result.now c.in_ok-vertices.vertices.items c.body_at-body.ensures c.is_valid.ensures c.solid.ensures.sides c.in_ok-vertices.ensures.vertices
    (subst HasWeight c.deref.ensures.value (none refl)) b right
    ∙ ap (λ k. Some (FractionalVertex k)) (sym c.number.ensures)
