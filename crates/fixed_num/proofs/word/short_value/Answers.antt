use Rattle.std.proofs.Common.{take, arith, ◌∙◌, sym, ap, ◌+◌, ◌*◌}
use Rattle.std.specs.Str.Parse.{digits_value}
use Rattle.fixed_num.proofs.Steps.{digit_below, digits_value_after-more, short_below}
use Rattle.fixed_num.proofs.word.short_value.Goals as goal

pub overflow_mul-value : goal.overflow_mul-value
overflow_mul-value c = omega (arith, short_below c.args.digits.now c.loop-digit.digit-index c.requires.all_digits (omega arith) c.requires.few)

pub digit_of-requires : goal.digit_of-requires
digit_of-requires c = digit_below c.args.digits.now c.loop-digit.digit-index c.requires.all_digits (omega arith)

pub overflow_add-value : goal.overflow_add-value
overflow_add-value c = omega (arith, short_below c.args.digits.now c.loop-digit.digit-index c.requires.all_digits (omega arith) c.requires.few)

pub loop-digit-preserved : goal.loop-digit-preserved
loop-digit-preserved c =
    ap (λ v. v * 10 + c.digit_of.result) c.loop-digit.invariant
    ∙ ap (λ d. digits_value 10 (take c.loop-digit.digit-index c.args.digits.now) * 10 + d) c.digit_of.ensures.value
    ∙ sym (digits_value_after-more 0 c.args.digits.now c.loop-digit.digit-index (omega arith))
