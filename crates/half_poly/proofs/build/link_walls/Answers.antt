use Rattle.std.proofs.Common.{map, refl}
use Rattle.half_arena.specs.declared.ids.FaceId.{FaceId}
use Rattle.half_arena.specs.Slots.{contents}
use Rattle.half_poly.specs.Walls.{cube_wall}
use Rattle.half_poly.proofs.Putting.{writing_none, writing_more, writing_all}
use Rattle.half_poly.proofs.Cubing.{id_of, map_id}
use Rattle.half_poly.proofs.build.link_walls.Goals as goal

pub loop-number-init : goal.loop-number-init
loop-number-init c = writing_none (map (λ (i : FaceId). i.0) c.args.walls.now) (cube_wall c.args.ids.now) (contents c.args.faces.now) 6 c.requires.live

pub loop-number-preserved : goal.loop-number-preserved
loop-number-preserved c =
    writing_more (map (λ (i : FaceId). i.0) c.args.walls.now) (cube_wall c.args.ids.now) (contents c.loop-number.faces) (contents c.link_wall.new.faces) c.loop-number.number 6 (id_of c.args.walls.now c.loop-number.number)
    (cube_wall c.args.ids.now c.loop-number.number) c.loop-number.invariant c.loop-number-test.true (map_id c.args.walls.now c.loop-number.number) refl (c.link_wall.ensures c.loop-number-test.true)

pub returns : goal.returns
returns c = writing_all (map (λ (i : FaceId). i.0) c.args.walls.now) (cube_wall c.args.ids.now) (contents c.loop-number.faces) c.loop-number.number 6 c.loop-number-test.false c.loop-number.invariant
