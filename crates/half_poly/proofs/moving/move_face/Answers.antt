use Rattle.std.proofs.Common.{◌≡◌, Some, rules}
use Rattle.half_arena.specs.Slots.{contents}
use Rattle.half_poly.specs.Moving.{moved_face}
use Rattle.half_poly.proofs.ChangedSlot.{holds_changed, others_stay}
use Rattle.half_poly.proofs.moving.move_face.Goals as goal

pub returns-in-Some-clause-here : goal.returns-in-Some-clause-here
returns-in-Some-clause-here c =
    let i : c.at-id.result.0 ≡ c.args.place = search rules in
    let e : contents c.args.faces.now c.args.place ≡ Some c.in-Some.face = search rules in
    holds_changed (contents c.args.faces.now) (contents c.write.new.arena) c.args.place c.at-id.result.0 c.in-Some.face c.moved_face.result i e c.write.ensures (moved_face c.args.motion.now) c.moved_face.ensures

pub returns-in-Some-clause-others : goal.returns-in-Some-clause-others
returns-in-Some-clause-others c =
    let i : c.at-id.result.0 ≡ c.args.place = search rules in
    let e : contents c.args.faces.now c.args.place ≡ Some c.in-Some.face = search rules in
    others_stay (contents c.args.faces.now) (contents c.write.new.arena) c.args.place c.at-id.result.0 c.in-Some.face c.moved_face.result i e c.write.ensures
