use Rattle.std.proofs.Common.{◌≡◌, Some, rules}
use Rattle.half_arena.specs.Slots.{contents}
use Rattle.half_poly.proofs.ChangedSlot.{others_stay}
use Rattle.half_poly.proofs.MovedSlots.{slot_moved}
use Rattle.half_poly.proofs.moving.move_vertex.Goals as goal

pub returns-clause-here : goal.returns-clause-here
returns-clause-here c = λ r can.
    let i : c.at-id.result.0 ≡ c.args.place = search rules in
    let e : contents c.args.vertices.now c.args.place ≡ Some c.in-Some.vertex = search rules in
    slot_moved r (contents c.args.faces.now) c.args.order.now c.args.names.now (contents c.args.vertices.now) (contents c.write.new.arena) c.args.place c.at-id.result.0 c.in-Some.vertex c.in-Some-corner.moved c.name_at.result c.corner.result c.in_world.result
    i e c.parts-parts.ensures.vertex.reduced c.name_at.ensures c.corner.ensures c.in-Some-corner.is c.write.ensures c.in_world.ensures can

pub returns-clause-others : goal.returns-clause-others
returns-clause-others c =
    let i : c.at-id.result.0 ≡ c.args.place = search rules in
    let e : contents c.args.vertices.now c.args.place ≡ Some c.in-Some.vertex = search rules in
    others_stay (contents c.args.vertices.now) (contents c.write.new.arena) c.args.place c.at-id.result.0 c.in-Some.vertex c.in-Some-corner.moved i e c.write.ensures
