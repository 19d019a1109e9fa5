use Rattle.uv_lock.proofs.Divisors.{lowest}
use Rattle.uv_lock.proofs.fraction.lowest.Goals as goal

pub overflow_cast-divisor : goal.overflow_cast-divisor
overflow_cast-divisor c =
    (lowest c.args.num c.args.den c.unsigned_abs.result c.unsigned_abs-2.result c.gcd-divisor.result c.requires.positive c.requires.num c.requires.den c.unsigned_abs.ensures.value c.unsigned_abs-2.ensures.value c.gcd-divisor.ensures).fits

pub nonzero_div-result : goal.nonzero_div-result
nonzero_div-result c =
    let l = lowest c.args.num c.args.den c.unsigned_abs.result c.unsigned_abs-2.result c.gcd-divisor.result c.requires.positive c.requires.num c.requires.den c.unsigned_abs.ensures.value c.unsigned_abs-2.ensures.value c.gcd-divisor.ensures in (l.some, l.num_fits)

pub nonzero_div-result-2 : goal.nonzero_div-result-2
nonzero_div-result-2 c =
    let l = lowest c.args.num c.args.den c.unsigned_abs.result c.unsigned_abs-2.result c.gcd-divisor.result c.requires.positive c.requires.num c.requires.den c.unsigned_abs.ensures.value c.unsigned_abs-2.ensures.value c.gcd-divisor.ensures in (l.some, l.den_fits)

pub invariant_of-result : goal.invariant_of-result
invariant_of-result c =
    let l = lowest c.args.num c.args.den c.unsigned_abs.result c.unsigned_abs-2.result c.gcd-divisor.result c.requires.positive c.requires.num c.requires.den c.unsigned_abs.ensures.value c.unsigned_abs-2.ensures.value c.gcd-divisor.ensures in
    record { positive = l.positive; reduced = l.reduced }

pub returns : goal.returns
returns c =
    (lowest c.args.num c.args.den c.unsigned_abs.result c.unsigned_abs-2.result c.gcd-divisor.result c.requires.positive c.requires.num c.requires.den c.unsigned_abs.ensures.value c.unsigned_abs-2.ensures.value c.gcd-divisor.ensures).value
