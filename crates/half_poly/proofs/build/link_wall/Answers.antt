use Rattle.half_arena.specs.Slots.{contents}
use Rattle.half_poly.proofs.Making.{same_value}
use Rattle.half_poly.proofs.Cubing.{wall_linked}
use Rattle.half_poly.proofs.build.link_wall.Goals as goal

pub returns-in-Some : goal.returns-in-Some
returns-in-Some c = λ l live.
    wall_linked c.args.ids.now c.args.walls.now c.args.number c.at.result c.nth-first.result c.at-in-Some.result c.nth.result c.in-Some.face (contents c.args.faces.now) (contents c.write.new.arena) l
    c.at.ensures c.nth-first.ensures c.at-in-Some.ensures c.nth.ensures (same_value c.in-Some.is (c.face_of.ensures l)) c.write.ensures live
