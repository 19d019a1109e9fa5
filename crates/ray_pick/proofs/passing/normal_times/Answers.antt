use Rattle.std.proofs.Common.{pos, ap, slice_index_or, arith}
use Rattle.algebra.specs.Space.{dot, minus}
use Rattle.exact_geom.specs.Planes.{half_space}
use Rattle.exact_geom.proofs.Exactly.{sum, sum_fits}
use Rattle.exact_geom.proofs.PlaneLaws.{in_range}
use Rattle.ray_pick.specs.Passings.{way_limit}
use Rattle.ray_pick.proofs.Sizes.{size_within}
use Rattle.ray_pick.proofs.Parts.{difference_fits, part_fits, part}
use Rattle.ray_pick.proofs.passing.normal_times.Goals as goal

pub overflow_sub-result : goal.overflow_sub-result
overflow_sub-result c =
    let p = c.args.a.now in
    let q = c.args.b.now in
    let a = in_range p c.requires.a_in_range in
    let b = in_range q c.requires.b_in_range in
    let n = (half_space c.args.plane.now).normal in
    let h = c.normal.ensures.size.normal in
    difference_fits (slice_index_or c.normal.result 0 (pos 0)) n.x c.from.result c.from-2.result p.x q.x (ap (λ l. slice_index_or l 0 (pos 0)) c.normal.ensures.normal) h.x c.from.ensures c.from-2.ensures a.x b.x

pub overflow_mul-result : goal.overflow_mul-result
overflow_mul-result c =
    let p = c.args.a.now in
    let q = c.args.b.now in
    let a = in_range p c.requires.a_in_range in
    let b = in_range q c.requires.b_in_range in
    let n = (half_space c.args.plane.now).normal in
    let h = c.normal.ensures.size.normal in
    part_fits (slice_index_or c.normal.result 0 (pos 0)) n.x c.from.result c.from-2.result p.x q.x (ap (λ l. slice_index_or l 0 (pos 0)) c.normal.ensures.normal) h.x c.from.ensures c.from-2.ensures a.x b.x

pub overflow_sub-result-2 : goal.overflow_sub-result-2
overflow_sub-result-2 c =
    let p = c.args.a.now in
    let q = c.args.b.now in
    let a = in_range p c.requires.a_in_range in
    let b = in_range q c.requires.b_in_range in
    let n = (half_space c.args.plane.now).normal in
    let h = c.normal.ensures.size.normal in
    difference_fits (slice_index_or c.normal.result 1 (pos 0)) n.y c.from-3.result c.from-4.result p.y q.y (ap (λ l. slice_index_or l 1 (pos 0)) c.normal.ensures.normal) h.y c.from-3.ensures c.from-4.ensures a.y b.y

pub overflow_mul-result-2 : goal.overflow_mul-result-2
overflow_mul-result-2 c =
    let p = c.args.a.now in
    let q = c.args.b.now in
    let a = in_range p c.requires.a_in_range in
    let b = in_range q c.requires.b_in_range in
    let n = (half_space c.args.plane.now).normal in
    let h = c.normal.ensures.size.normal in
    part_fits (slice_index_or c.normal.result 1 (pos 0)) n.y c.from-3.result c.from-4.result p.y q.y (ap (λ l. slice_index_or l 1 (pos 0)) c.normal.ensures.normal) h.y c.from-3.ensures c.from-4.ensures a.y b.y

pub overflow_sub-result-3 : goal.overflow_sub-result-3
overflow_sub-result-3 c =
    let p = c.args.a.now in
    let q = c.args.b.now in
    let a = in_range p c.requires.a_in_range in
    let b = in_range q c.requires.b_in_range in
    let n = (half_space c.args.plane.now).normal in
    let h = c.normal.ensures.size.normal in
    difference_fits (slice_index_or c.normal.result 2 (pos 0)) n.z c.from-5.result c.from-6.result p.z q.z (ap (λ l. slice_index_or l 2 (pos 0)) c.normal.ensures.normal) h.z c.from-5.ensures c.from-6.ensures a.z b.z

pub overflow_mul-result-3 : goal.overflow_mul-result-3
overflow_mul-result-3 c =
    let p = c.args.a.now in
    let q = c.args.b.now in
    let a = in_range p c.requires.a_in_range in
    let b = in_range q c.requires.b_in_range in
    let n = (half_space c.args.plane.now).normal in
    let h = c.normal.ensures.size.normal in
    part_fits (slice_index_or c.normal.result 2 (pos 0)) n.z c.from-5.result c.from-6.result p.z q.z (ap (λ l. slice_index_or l 2 (pos 0)) c.normal.ensures.normal) h.z c.from-5.ensures c.from-6.ensures a.z b.z

pub overflow_add-result : goal.overflow_add-result
overflow_add-result c =
    let p = c.args.a.now in
    let q = c.args.b.now in
    let a = in_range p c.requires.a_in_range in
    let b = in_range q c.requires.b_in_range in
    let n = (half_space c.args.plane.now).normal in
    let h = c.normal.ensures.size.normal in
    sum_fits (part (slice_index_or c.normal.result 0 (pos 0)) n.x c.from.result c.from-2.result p.x q.x (ap (λ l. slice_index_or l 0 (pos 0)) c.normal.ensures.normal) h.x c.from.ensures c.from-2.ensures a.x b.x)
    (part (slice_index_or c.normal.result 1 (pos 0)) n.y c.from-3.result c.from-4.result p.y q.y (ap (λ l. slice_index_or l 1 (pos 0)) c.normal.ensures.normal) h.y c.from-3.ensures c.from-4.ensures a.y b.y) tt

pub overflow_add-result-2 : goal.overflow_add-result-2
overflow_add-result-2 c =
    let p = c.args.a.now in
    let q = c.args.b.now in
    let a = in_range p c.requires.a_in_range in
    let b = in_range q c.requires.b_in_range in
    let n = (half_space c.args.plane.now).normal in
    let h = c.normal.ensures.size.normal in
    sum_fits (sum (part (slice_index_or c.normal.result 0 (pos 0)) n.x c.from.result c.from-2.result p.x q.x (ap (λ l. slice_index_or l 0 (pos 0)) c.normal.ensures.normal) h.x c.from.ensures c.from-2.ensures a.x b.x)
    (part (slice_index_or c.normal.result 1 (pos 0)) n.y c.from-3.result c.from-4.result p.y q.y (ap (λ l. slice_index_or l 1 (pos 0)) c.normal.ensures.normal) h.y c.from-3.ensures c.from-4.ensures a.y b.y) tt)
    (part (slice_index_or c.normal.result 2 (pos 0)) n.z c.from-5.result c.from-6.result p.z q.z (ap (λ l. slice_index_or l 2 (pos 0)) c.normal.ensures.normal) h.z c.from-5.ensures c.from-6.ensures a.z b.z) tt

pub returns-clause-value : goal.returns-clause-value
unfolding dot minus
returns-clause-value c =
    let p = c.args.a.now in
    let q = c.args.b.now in
    let a = in_range p c.requires.a_in_range in
    let b = in_range q c.requires.b_in_range in
    let n = (half_space c.args.plane.now).normal in
    let h = c.normal.ensures.size.normal in
    (sum (sum (part (slice_index_or c.normal.result 0 (pos 0)) n.x c.from.result c.from-2.result p.x q.x (ap (λ l. slice_index_or l 0 (pos 0)) c.normal.ensures.normal) h.x c.from.ensures c.from-2.ensures a.x b.x)
    (part (slice_index_or c.normal.result 1 (pos 0)) n.y c.from-3.result c.from-4.result p.y q.y (ap (λ l. slice_index_or l 1 (pos 0)) c.normal.ensures.normal) h.y c.from-3.ensures c.from-4.ensures a.y b.y) tt)
    (part (slice_index_or c.normal.result 2 (pos 0)) n.z c.from-5.result c.from-6.result p.z q.z (ap (λ l. slice_index_or l 2 (pos 0)) c.normal.ensures.normal) h.z c.from-5.ensures c.from-6.ensures a.z b.z) tt).is

pub returns-clause-size : goal.returns-clause-size
returns-clause-size c =
    let p = c.args.a.now in
    let q = c.args.b.now in
    let a = in_range p c.requires.a_in_range in
    let b = in_range q c.requires.b_in_range in
    let n = (half_space c.args.plane.now).normal in
    let h = c.normal.ensures.size.normal in
    size_within way_limit (sum (sum (part (slice_index_or c.normal.result 0 (pos 0)) n.x c.from.result c.from-2.result p.x q.x (ap (λ l. slice_index_or l 0 (pos 0)) c.normal.ensures.normal) h.x c.from.ensures c.from-2.ensures a.x b.x)
    (part (slice_index_or c.normal.result 1 (pos 0)) n.y c.from-3.result c.from-4.result p.y q.y (ap (λ l. slice_index_or l 1 (pos 0)) c.normal.ensures.normal) h.y c.from-3.ensures c.from-4.ensures a.y b.y) tt)
    (part (slice_index_or c.normal.result 2 (pos 0)) n.z c.from-5.result c.from-6.result p.z q.z (ap (λ l. slice_index_or l 2 (pos 0)) c.normal.ensures.normal) h.z c.from-5.ensures c.from-6.ensures a.z b.z) tt) (omega arith)
