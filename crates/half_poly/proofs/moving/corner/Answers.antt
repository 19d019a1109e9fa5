use Rattle.half_arena.specs.Slots.{contents}
use Rattle.half_poly.proofs.MovedCorner.{at_corner, plane_read}
use Rattle.half_poly.proofs.moving.corner.Goals as goal

pub returns : goal.returns
returns c = λ p k.
    let faces = contents c.args.faces.now in
    let order = c.args.order.now in
    at_corner faces order c.args.name p c.in_ok-first.first c.in_ok-second.second c.in_ok-third.third c.meet.result k
    (plane_read faces order c.args.name.first c.face_at.result c.plane_of.result c.in_ok-first.first c.face_at.ensures c.plane_of.ensures c.in_ok-first.was)
    (plane_read faces order c.args.name.second c.face_at-2.result c.plane_of-2.result c.in_ok-second.second c.face_at-2.ensures c.plane_of-2.ensures c.in_ok-second.was)
    (plane_read faces order c.args.name.third c.face_at-3.result c.plane_of-3.result c.in_ok-third.third c.face_at-3.ensures c.plane_of-3.ensures c.in_ok-third.was)
    c.meet.ensures.none c.meet.ensures.some
