use Rattle.exact_geom.proofs.Exactly.{times_fits}
use Rattle.ray_pick.proofs.Sizes.{small, product, less_tells, earlier_tells}
use Rattle.ray_pick.proofs.ratio.earlier.Goals as goal

pub overflow_mul-result : goal.overflow_mul-result
overflow_mul-result c = times_fits (small c.a.inside.num c.a.invariant.num_size) (small c.b.inside.den c.b.invariant.den_size) tt

pub overflow_mul-result-2 : goal.overflow_mul-result-2
overflow_mul-result-2 c = times_fits (small c.b.inside.num c.b.invariant.num_size) (small c.a.inside.den c.a.invariant.den_size) tt

pub returns : goal.returns
returns c =
    let a = c.a.inside in
    let b = c.b.inside in
    earlier_tells _ (record { num = a.num; den = a.den }) (record { num = b.num; den = b.den }) _ _ c.a.view_is c.b.view_is
    (less_tells _ _ _ _ (product a.num b.den c.a.invariant.num_size c.b.invariant.den_size).is (product b.num a.den c.b.invariant.num_size c.a.invariant.den_size).is)
