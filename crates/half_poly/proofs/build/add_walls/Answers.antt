use Rattle.std.proofs.Common.{◌+◌, map, ◌∙◌}
use Rattle.half_arena.specs.declared.ids.FaceId.{FaceId}
use Rattle.half_arena.specs.Slots.{contents}
use Rattle.half_poly.specs.Walls.{unbegun_walls}
use Rattle.half_poly.proofs.Making.{same_value}
use Rattle.half_poly.proofs.Putting.{put_more, put_ids}
use Rattle.half_poly.proofs.Cubing.{wall_read}
use Rattle.half_poly.proofs.build.add_walls.Goals as goal

pub loop-number-preserved : goal.loop-number-preserved
loop-number-preserved c =
    let id = c.in_ok-put_in.field-0 in let n = c.loop-number.number in let l = c.loop-number-test.true in
    put_ids (contents c.args.faces.now) unbegun_walls (λ (i : FaceId). i.0) c.loop-number.ids.items c.push.new.self.items id (contents c.put_in.new.arena) (n + 1) c.in_ok-push.ensures.items
    (put_more (contents c.args.faces.now) unbegun_walls (contents c.loop-number.faces) (contents c.put_in.new.arena) (map (λ (i : FaceId). i.0) c.loop-number.ids.items) n id.0 c.in-Some.face
    (λ d. wall_read n d c.at.result l c.at.ensures ∙ same_value (c.face_of.ensures l) c.in-Some.is) c.in_ok-put_in.ensures.was_free c.in_ok-put_in.ensures.contents c.loop-number.invariant)
