use Rattle.std.proofs.Common.{true}
use Rattle.half_arena.specs.Slots.{contents}
use Rattle.half_poly.proofs.MovedSlots.{can_now, some_leaves, moved_more, all_moved}
use Rattle.half_poly.proofs.moving.move_vertices.Goals as goal

pub returns-then-not-move_vertex : goal.returns-then-not-move_vertex
returns-then-not-move_vertex c = record {
  moved = λ r can.
      let before = contents c.args.vertices.now in let now = contents c.loop-place.vertices in let after = contents c.move_vertex.new.vertices in let m = c.loop-place.invariant r can in
      some_leaves r before now after c.loop-place.place c.move_vertex.result m c.if-not-move_vertex.true
      (c.move_vertex.ensures.here r (can_now r before now after c.loop-place.place c.move_vertex.result m (contents c.args.faces.now) c.args.order.now c.args.names.now (can c.loop-place.place)));
}

pub loop-place-preserved : goal.loop-place-preserved
loop-place-preserved c = λ r can.
    let before = contents c.args.vertices.now in let now = contents c.loop-place.vertices in let after = contents c.move_vertex.new.vertices in let m = c.loop-place.invariant r can in
    moved_more r before now after c.loop-place.place c.move_vertex.result m c.if-not-move_vertex.false
    (c.move_vertex.ensures.here r (can_now r before now after c.loop-place.place c.move_vertex.result m (contents c.args.faces.now) c.args.order.now c.args.names.now (can c.loop-place.place))) c.move_vertex.ensures.others

pub returns : goal.returns
returns c = record {
  moved = λ r can.
      all_moved r (contents c.args.vertices.now) (contents c.loop-place.vertices) (contents c.loop-place.vertices) c.loop-place.place true (c.loop-place.invariant r can) c.place_limit-place-end.result c.place_limit-place-end.ensures.above c.loop-place-test.false;
}
