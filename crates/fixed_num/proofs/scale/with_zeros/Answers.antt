use Rattle.std.proofs.Common.{arith}
use Rattle.fixed_num.proofs.Steps.{kept_zero, kept_zeros}
use Rattle.fixed_num.proofs.scale.with_zeros.Goals as goal

pub loop-preserved : goal.loop-preserved
loop-preserved c = (
  c.with_digit-kept.ensures.bound,
  λ count is_kept. kept_zero _ _ count c.loop.counter (c.loop.invariant.1 count is_kept) c.with_digit-kept.ensures.value,
)

pub returns-clause-value : goal.returns-clause-value
returns-clause-value c = λ count is_kept. kept_zeros _ count c.args.zeros c.loop.counter (omega arith) (c.loop.invariant.1 count is_kept)
