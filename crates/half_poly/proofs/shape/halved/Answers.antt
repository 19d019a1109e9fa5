use Rattle.std.proofs.Common.{◌≡◌, ◌∙◌, ◌++◌, ◌∷◌, [], refl}
use Rattle.exact_geom.proofs.PlaneLaws.{normal_positive}
use Rattle.half_arena.specs.Slots.{contents}
use Rattle.half_poly.specs.Shapes.{keeps, HalvedShape}
use Rattle.half_poly.proofs.Shaping.{halved_shape}
use Rattle.half_poly.proofs.Answering.{at_order, halved_at, kept_order}
use Rattle.half_poly.proofs.shape.halved.Goals as goal

pub returns-clause-shape : goal.returns-clause-shape
returns-clause-shape g c =
    let r = c.in_ok-vertices_after.field-0 in
    let h : HalvedShape c.args.plane.now c.args.tag (contents r.vertices) (contents r.edges) (contents c.args.faces.now) (contents r.faces) r.begin.items r.wall c.args.order.now =
    halved_shape c.args.plane.now c.args.tag (contents c.args.vertices.now) (contents r.vertices) (contents c.args.edges.now) (contents r.edges) (contents c.args.faces.now) (contents r.faces)
    r.begin.items r.wall c.args.order.now c.requires.behind.at c.requires.front.at c.requires.shape c.in_ok-vertices_after.ensures.cut (normal_positive c.args.plane.now c.points-points.ensures.plane)
    c.requires.behind.vertex c.requires.behind.behind c.requires.front.vertex c.requires.front.front in
    let q : c.in_ok-order_after.order_after.items ≡ keeps r.begin.items c.args.order.now ++ r.wall ∷ [] =
    c.in_ok-order_after.ensures ∙ kept_order r.begin.items c.deref.result.now r.wall r.wall c.args.order.now c.deref.ensures.value refl in
    at_order (keeps r.begin.items c.args.order.now ++ r.wall ∷ []) c.in_ok-order_after.order_after.items q h.shape

pub returns-clause-halved : goal.returns-clause-halved
returns-clause-halved g c =
    let r = c.in_ok-vertices_after.field-0 in
    let h : HalvedShape c.args.plane.now c.args.tag (contents r.vertices) (contents r.edges) (contents c.args.faces.now) (contents r.faces) r.begin.items r.wall c.args.order.now =
    halved_shape c.args.plane.now c.args.tag (contents c.args.vertices.now) (contents r.vertices) (contents c.args.edges.now) (contents r.edges) (contents c.args.faces.now) (contents r.faces)
    r.begin.items r.wall c.args.order.now c.requires.behind.at c.requires.front.at c.requires.shape c.in_ok-vertices_after.ensures.cut (normal_positive c.args.plane.now c.points-points.ensures.plane)
    c.requires.behind.vertex c.requires.behind.behind c.requires.front.vertex c.requires.front.front in
    let q : c.in_ok-order_after.order_after.items ≡ keeps r.begin.items c.args.order.now ++ r.wall ∷ [] =
    c.in_ok-order_after.ensures ∙ kept_order r.begin.items c.deref.result.now r.wall r.wall c.args.order.now c.deref.ensures.value refl in
    halved_at (contents c.args.faces.now) (contents r.faces) c.args.order.now (keeps r.begin.items c.args.order.now ++ r.wall ∷ []) c.in_ok-order_after.order_after.items
    (record { plane = c.args.plane.now; tag = c.args.tag }) q h.halved
