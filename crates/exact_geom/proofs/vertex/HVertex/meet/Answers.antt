use Rattle.std.proofs.Common.{◌≡◌, arith, refl, ap, sym, ◌∙◌, ◌≤◌, ℤ, pos, negsuc, of_z, unsigned_abs}
use Rattle.std.specs.Int.{w128}
use Rattle.exact_geom.specs.Limits.{weight_limit}
use Rattle.exact_geom.proofs.Meeting.{meet_at, vertex_of, weight_is}
use Rattle.exact_geom.proofs.vertex.HVertex.meet.Goals as goal

zero_of : (z : ℤ) → unsigned_abs z ≤ weight_limit → of_z w128 z ≡ 0 → z ≡ pos 0
zero_of (pos n) h e = ap pos e
zero_of (negsuc n) h e = absurd (omega arith)

pub returns-then-crossing-eq0-clause-none : goal.returns-then-crossing-eq0-clause-none
returns-then-crossing-eq0-clause-none c c' =
    let w = weight_is c'.of-crossing.ensures.point c'.half_space64.ensures.half_space c'.half_space64-2.ensures.half_space c'.half_space64-3.ensures.half_space in
    let z = zero_of c'.of-crossing.result.w c'.of-crossing.ensures.bounded.weight c'.if-crossing-eq0.true in
    (λ _. sym w ∙ z, λ _. refl)

pub returns-else-crossing-eq0-clause-none : goal.returns-else-crossing-eq0-clause-none
returns-else-crossing-eq0-clause-none c c' =
    let w = weight_is c'.of-crossing.ensures.point c'.half_space64.ensures.half_space c'.half_space64-2.ensures.half_space c'.half_space64-3.ensures.half_space in
    (λ e. cc, λ e. absurd (c'.if-crossing-eq0.false (ap (of_z w128) (w ∙ e))))

pub returns-else-crossing-eq0-clause-some : goal.returns-else-crossing-eq0-clause-some
returns-else-crossing-eq0-clause-some c c' =
    vertex_of c'.args.a.now c'.args.b.now c'.args.c.now _ c'.reduced.result
    (meet_at c'.of-crossing.ensures.point c'.half_space64.ensures.half_space c'.half_space64-2.ensures.half_space c'.half_space64-3.ensures.half_space) c'.reduced.ensures.multiple c'.reduced.ensures.vertex
