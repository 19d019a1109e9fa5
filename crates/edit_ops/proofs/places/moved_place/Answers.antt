use Rattle.std.proofs.Common.{ap, subst, ◌∙◌, get_or, pos}
use Rattle.map_model.specs.Origins.{in_range}
use Rattle.orient48.proofs.Parts.{within_short}
use Rattle.edit_ops.specs.Places.{counts_of}
use Rattle.edit_ops.proofs.ThreeCounts.{IsTurned, is_turned, near_x, near_y, near_z, short_coordinate, moved_are}
use Rattle.edit_ops.proofs.places.moved_place.Goals as goal

pub shifted-requires-clause-count : goal.shifted-requires-clause-count
shifted-requires-clause-count c =
    let p = c.args.place in
    near_x _ (counts_of p) c.apply.result
    (is_turned _ c.count.result c.count-2.result c.count-3.result p.x p.y p.z c.apply.result c.apply.ensures.signed c.count.ensures.size c.count-2.ensures.size c.count-3.ensures.size
    c.count.ensures.value c.count-2.ensures.value c.count-3.ensures.value c.apply.ensures.turned)

pub shifted-requires-2-clause-count : goal.shifted-requires-2-clause-count
shifted-requires-2-clause-count c =
    let p = c.args.place in
    near_y _ (counts_of p) c.apply.result
    (is_turned _ c.count.result c.count-2.result c.count-3.result p.x p.y p.z c.apply.result c.apply.ensures.signed c.count.ensures.size c.count-2.ensures.size c.count-3.ensures.size
    c.count.ensures.value c.count-2.ensures.value c.count-3.ensures.value c.apply.ensures.turned)

pub shifted-requires-3-clause-count : goal.shifted-requires-3-clause-count
shifted-requires-3-clause-count c =
    let p = c.args.place in
    near_z _ (counts_of p) c.apply.result
    (is_turned _ c.count.result c.count-2.result c.count-3.result p.x p.y p.z c.apply.result c.apply.ensures.signed c.count.ensures.size c.count-2.ensures.size c.count-3.ensures.size
    c.count.ensures.value c.count-2.ensures.value c.count-3.ensures.value c.apply.ensures.turned)

pub shifted-requires-clause-shift : goal.shifted-requires-clause-shift
shifted-requires-clause-shift c =
    let r = c.args.motion.now in
    short_coordinate (get_or c.shift-shift.result 0 (pos 0)) r.shift.x (ap (λ l. get_or l 0 (pos 0)) c.shift-shift.ensures.shift) (within_short r.shift c.shift-shift.ensures.short).x

pub shifted-requires-2-clause-shift : goal.shifted-requires-2-clause-shift
shifted-requires-2-clause-shift c =
    let r = c.args.motion.now in
    short_coordinate (get_or c.shift-shift.result 1 (pos 0)) r.shift.y (ap (λ l. get_or l 1 (pos 0)) c.shift-shift.ensures.shift) (within_short r.shift c.shift-shift.ensures.short).y

pub shifted-requires-3-clause-shift : goal.shifted-requires-3-clause-shift
shifted-requires-3-clause-shift c =
    let r = c.args.motion.now in
    short_coordinate (get_or c.shift-shift.result 2 (pos 0)) r.shift.z (ap (λ l. get_or l 2 (pos 0)) c.shift-shift.ensures.shift) (within_short r.shift c.shift-shift.ensures.short).z

pub returns : goal.returns
returns c =
    let p = c.args.place in
    let r = c.args.motion.now in
    let t = is_turned _ c.count.result c.count-2.result c.count-3.result p.x p.y p.z c.apply.result c.apply.ensures.signed c.count.ensures.size c.count-2.ensures.size c.count-3.ensures.size
    c.count.ensures.value c.count-2.ensures.value c.count-3.ensures.value c.apply.ensures.turned in
    c.place_at.ensures ∙ ap in_range
    (moved_are r (counts_of p) c.apply.result c.shift-shift.result c.shifted.result c.shifted-2.result c.shifted-3.result (subst (λ m. IsTurned m (counts_of p) c.apply.result) c.orient.ensures t)
    c.shift-shift.ensures.shift c.shift-shift.ensures.short c.shifted.ensures c.shifted-2.ensures c.shifted-3.ensures)
