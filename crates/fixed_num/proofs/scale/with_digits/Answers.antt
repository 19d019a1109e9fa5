use Rattle.std.proofs.Common.{arith}
use Rattle.fixed_num.proofs.Steps.{digit_below, kept_more}
use Rattle.fixed_num.proofs.scale.with_digits.Goals as goal

pub digit_of-requires : goal.digit_of-requires
digit_of-requires c = digit_below c.args.digits.now c.loop-digit.digit-index c.requires.all_digits (omega arith)

pub loop-digit-preserved : goal.loop-digit-preserved
loop-digit-preserved c = (
  c.with_digit-kept.ensures.bound,
  λ count is_kept. kept_more _ _ _ count c.args.digits.now c.loop-digit.digit-index (omega arith) (c.loop-digit.invariant.1 count is_kept) c.digit_of.ensures.value c.with_digit-kept.ensures.value,
)
