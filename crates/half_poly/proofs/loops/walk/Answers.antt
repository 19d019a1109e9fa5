use Rattle.half_arena.specs.Slots.{contents}
use Rattle.half_poly.specs.Rounds.{begin_number}
use Rattle.half_poly.specs.Readings.{faces_of, points_of, face_at}
use Rattle.half_poly.proofs.Walking.{begun, went_on, came_back, nearer, eq_is, ne_is}
use Rattle.half_poly.proofs.loops.walk.Goals as goal

pub loop-found-init : goal.loop-found-init
loop-found-init c = (
  begun (faces_of c.args.shape.now) (points_of c.args.shape.now c.args.named.now) (face_at c.args.shape.now c.args.face) (begin_number (contents c.args.shape.now.edges) c.args.numbers.now c.args.first.0)
      c.new-found.result.items c.requires.least c.new-found.ensures.items,
  c.requires.of_face,
)

pub returns-then-eq : goal.returns-then-eq
returns-then-eq c = came_back c.requires.goes_on c.args.first c.requires.of_face c.requires.least c.loop-found.found.items c.push.new.self.items c.loop-found.at c.next_of-at.result c.begin_number.result c.loop-found.invariant
    c.in_ok-push.ensures.items c.begin_number.ensures c.next_of-at.ensures (eq_is c.eq.ensures c.if-eq.true)

pub loop-found-smaller : goal.loop-found-smaller
loop-found-smaller c = nearer c.requires.goes_on c.args.first c.requires.of_face c.requires.least c.loop-found.found.items c.push.new.self.items c.loop-found.at c.next_of-at.result c.begin_number.result c.loop-found.invariant
    c.in_ok-push.ensures.items c.begin_number.ensures c.next_of-at.ensures

pub loop-found-preserved : goal.loop-found-preserved
loop-found-preserved c = went_on c.requires.goes_on c.args.first c.requires.of_face c.requires.least c.loop-found.found.items c.push.new.self.items c.loop-found.at c.next_of-at.result c.begin_number.result c.loop-found.invariant
    c.in_ok-push.ensures.items c.begin_number.ensures c.next_of-at.ensures (ne_is c.eq.ensures c.if-eq.false)
