use Rattle.ray_pick.proofs.Lowest.{divisor_is_some, quotient_fits, equal, is_ratio, top_is, bottom_is, kept_is}
use Rattle.ray_pick.proofs.ratio.Ratio.of.Goals as goal

pub nonzero_div-result : goal.nonzero_div-result
nonzero_div-result c =
    let r = c.requires in
    let b = bottom_is c.args.den c.unsigned_abs-bottom.result r.positive r.den_size c.unsigned_abs-bottom.ensures.value in
    let t = top_is c.args.num c.unsigned_abs-top.result r.nonneg r.num_size c.unsigned_abs-top.ensures.value in
    divisor_is_some c.args.num c.args.den c.unsigned_abs-top.result c.unsigned_abs-bottom.result c.gcd-divisor.result t.is b.is b.some c.gcd-divisor.ensures

pub overflow_cast-result : goal.overflow_cast-result
overflow_cast-result c =
    let t = top_is c.args.num c.unsigned_abs-top.result c.requires.nonneg c.requires.num_size c.unsigned_abs-top.ensures.value in
    quotient_fits c.unsigned_abs-top.result c.gcd-divisor.result t.size

pub nonzero_div-result-2 : goal.nonzero_div-result-2
nonzero_div-result-2 c = nonzero_div-result c

pub overflow_cast-result-2 : goal.overflow_cast-result-2
overflow_cast-result-2 c =
    let b = bottom_is c.args.den c.unsigned_abs-bottom.result c.requires.positive c.requires.den_size c.unsigned_abs-bottom.ensures.value in
    quotient_fits c.unsigned_abs-bottom.result c.gcd-divisor.result b.size

pub invariant_of-result : goal.invariant_of-result
invariant_of-result c =
    let r = c.requires in
    let g = c.gcd-divisor.result in
    let b = bottom_is c.args.den c.unsigned_abs-bottom.result r.positive r.den_size c.unsigned_abs-bottom.ensures.value in
    let t = top_is c.args.num c.unsigned_abs-top.result r.nonneg r.num_size c.unsigned_abs-top.ensures.value in
    is_ratio c.args.num c.args.den c.unsigned_abs-top.result c.unsigned_abs-bottom.result g t.is b.is b.some c.gcd-divisor.ensures
    _ _ (kept_is c.unsigned_abs-top.result g t.size) (kept_is c.unsigned_abs-bottom.result g b.size) t.size b.size

pub returns-clause-equal : goal.returns-clause-equal
returns-clause-equal c =
    let r = c.requires in
    let g = c.gcd-divisor.result in
    let b = bottom_is c.args.den c.unsigned_abs-bottom.result r.positive r.den_size c.unsigned_abs-bottom.ensures.value in
    let t = top_is c.args.num c.unsigned_abs-top.result r.nonneg r.num_size c.unsigned_abs-top.ensures.value in
    equal c.args.num c.args.den c.unsigned_abs-top.result c.unsigned_abs-bottom.result g t.is b.is b.some c.gcd-divisor.ensures
    _ _ (kept_is c.unsigned_abs-top.result g t.size) (kept_is c.unsigned_abs-bottom.result g b.size) t.size b.size

pub returns-clause-ratio : goal.returns-clause-ratio
returns-clause-ratio c = invariant_of-result c
