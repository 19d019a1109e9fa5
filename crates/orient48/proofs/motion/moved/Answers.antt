use Rattle.std.proofs.Common.{ap, ◌∙◌, get_or, pos, ◌+ℤ◌, w32, w64}
use Rattle.algebra.specs.Space.{plus}
use Rattle.algebra.proofs.Identities.{vector_by}
use Rattle.exact_geom.specs.Planes.{parts}
use Rattle.exact_geom.proofs.Exactly.{var, call, size_of}
use Rattle.exact_geom.proofs.Sizes.{size-add}
use Rattle.orient48.specs.Kept.{vector_in}
use Rattle.orient48.specs.Motions.{turned}
use Rattle.orient48.specs.Orients.{matrix_of}
use Rattle.orient48.proofs.Parts.{within_short}
use Rattle.orient48.proofs.Units.{turned_size}
use Rattle.orient48.proofs.motion.moved.Goals as goal

pub sum-requires-clause-turned : goal.sum-requires-clause-turned
sum-requires-clause-turned c =
    let m = matrix_of c.args.orient in
    let v = vector_in c.args.v in
    let s = within_short v c.requires.v in
    let wide = vector_by (call w64 c.from.result v.x (c.from.ensures ∙ (var w32 v.x s.x tt).is) s.x tt).is
    (call w64 c.from-2.result v.y (c.from-2.ensures ∙ (var w32 v.y s.y tt).is) s.y tt).is
    (call w64 c.from-3.result v.z (c.from-3.ensures ∙ (var w32 v.z s.z tt).is) s.z tt).is in
    let is = c.apply.ensures.turned ∙ ap (λ u. parts (turned m u)) wide in
    let t = turned_size m v 1000000 c.apply.ensures.signed s in
    size_of (call w64 (get_or c.apply.result 0 (pos 0)) (turned m v).x (ap (λ l. get_or l 0 (pos 0)) is) t.x tt)

pub sum-requires-clause-shift : goal.sum-requires-clause-shift
sum-requires-clause-shift c = size_of (var w32 (get_or c.args.shift 0 (pos 0)) (within_short (vector_in c.args.shift) c.requires.shift).x tt)

pub sum-requires-2-clause-turned : goal.sum-requires-2-clause-turned
sum-requires-2-clause-turned c =
    let m = matrix_of c.args.orient in
    let v = vector_in c.args.v in
    let s = within_short v c.requires.v in
    let wide = vector_by (call w64 c.from.result v.x (c.from.ensures ∙ (var w32 v.x s.x tt).is) s.x tt).is
    (call w64 c.from-2.result v.y (c.from-2.ensures ∙ (var w32 v.y s.y tt).is) s.y tt).is
    (call w64 c.from-3.result v.z (c.from-3.ensures ∙ (var w32 v.z s.z tt).is) s.z tt).is in
    let is = c.apply.ensures.turned ∙ ap (λ u. parts (turned m u)) wide in
    let t = turned_size m v 1000000 c.apply.ensures.signed s in
    size_of (call w64 (get_or c.apply.result 1 (pos 0)) (turned m v).y (ap (λ l. get_or l 1 (pos 0)) is) t.y tt)

pub sum-requires-2-clause-shift : goal.sum-requires-2-clause-shift
sum-requires-2-clause-shift c = size_of (var w32 (get_or c.args.shift 1 (pos 0)) (within_short (vector_in c.args.shift) c.requires.shift).y tt)

pub sum-requires-3-clause-turned : goal.sum-requires-3-clause-turned
sum-requires-3-clause-turned c =
    let m = matrix_of c.args.orient in
    let v = vector_in c.args.v in
    let s = within_short v c.requires.v in
    let wide = vector_by (call w64 c.from.result v.x (c.from.ensures ∙ (var w32 v.x s.x tt).is) s.x tt).is
    (call w64 c.from-2.result v.y (c.from-2.ensures ∙ (var w32 v.y s.y tt).is) s.y tt).is
    (call w64 c.from-3.result v.z (c.from-3.ensures ∙ (var w32 v.z s.z tt).is) s.z tt).is in
    let is = c.apply.ensures.turned ∙ ap (λ u. parts (turned m u)) wide in
    let t = turned_size m v 1000000 c.apply.ensures.signed s in
    size_of (call w64 (get_or c.apply.result 2 (pos 0)) (turned m v).z (ap (λ l. get_or l 2 (pos 0)) is) t.z tt)

pub sum-requires-3-clause-shift : goal.sum-requires-3-clause-shift
sum-requires-3-clause-shift c = size_of (var w32 (get_or c.args.shift 2 (pos 0)) (within_short (vector_in c.args.shift) c.requires.shift).z tt)

pub returns-clause-moved : goal.returns-clause-moved
unfolding plus
returns-clause-moved c =
    let m = matrix_of c.args.orient in
    let v = vector_in c.args.v in
    let s = within_short v c.requires.v in
    let wide = vector_by (call w64 c.from.result v.x (c.from.ensures ∙ (var w32 v.x s.x tt).is) s.x tt).is
    (call w64 c.from-2.result v.y (c.from-2.ensures ∙ (var w32 v.y s.y tt).is) s.y tt).is
    (call w64 c.from-3.result v.z (c.from-3.ensures ∙ (var w32 v.z s.z tt).is) s.z tt).is in
    let is = c.apply.ensures.turned ∙ ap (λ u. parts (turned m u)) wide in
    let t = turned_size m v 1000000 c.apply.ensures.signed s in
    let h = vector_in c.args.shift in
    let k = within_short h c.requires.shift in
    vector_by
    (call w32 c.sum.result ((turned m v).x +ℤ h.x)
    (c.sum.ensures ∙ (λ i. (call w64 (get_or c.apply.result 0 (pos 0)) (turned m v).x (ap (λ l. get_or l 0 (pos 0)) is) t.x tt).is i +ℤ (var w32 h.x k.x tt).is i))
    (size-add (turned m v).x h.x 1000000 1000000 t.x k.x) tt).is
    (call w32 c.sum-2.result ((turned m v).y +ℤ h.y)
    (c.sum-2.ensures ∙ (λ i. (call w64 (get_or c.apply.result 1 (pos 0)) (turned m v).y (ap (λ l. get_or l 1 (pos 0)) is) t.y tt).is i +ℤ (var w32 h.y k.y tt).is i))
    (size-add (turned m v).y h.y 1000000 1000000 t.y k.y) tt).is
    (call w32 c.sum-3.result ((turned m v).z +ℤ h.z)
    (c.sum-3.ensures ∙ (λ i. (call w64 (get_or c.apply.result 2 (pos 0)) (turned m v).z (ap (λ l. get_or l 2 (pos 0)) is) t.z tt).is i +ℤ (var w32 h.z k.z tt).is i))
    (size-add (turned m v).z h.z 1000000 1000000 t.z k.z) tt).is
