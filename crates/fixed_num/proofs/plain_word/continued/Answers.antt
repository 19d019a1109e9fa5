use Rattle.std.proofs.Common.{◌≡◌, ◌≢◌, true, get_or, arith, sym, ◌∙◌}
use Rattle.std.specs.Char.{is_ascii_digit}
use Rattle.fixed_num.proofs.Plain.{total_fits_next, Continues-more}
use Rattle.fixed_num.proofs.plain_word.continued.Goals as goal

pub overflow_mul-total : goal.overflow_mul-total
overflow_mul-total c =
    let more : c.loop-byte.byte-index ≢ c.args.most = λ e. c.if-count-most.false (c.loop-byte.invariant.1 ∙ e) in
    omega (arith, total_fits_next c.args.value c.args.bytes.now c.args.most _ _ c.requires.few c.requires.small c.loop-byte.invariant.0 more)

pub overflow_add-total : goal.overflow_add-total
overflow_add-total c =
    let more : c.loop-byte.byte-index ≢ c.args.most = λ e. c.if-count-most.false (c.loop-byte.invariant.1 ∙ e) in
    omega (arith, c.digit_of.ensures.below_ten, total_fits_next c.args.value c.args.bytes.now c.args.most _ _ c.requires.few c.requires.small c.loop-byte.invariant.0 more)

pub loop-byte-preserved : goal.loop-byte-preserved
loop-byte-preserved c =
    let more : c.loop-byte.byte-index ≢ c.args.most = λ e. c.if-count-most.false (c.loop-byte.invariant.1 ∙ e) in
    let is_digit : is_ascii_digit (get_or c.args.bytes.now c.loop-byte.byte-index 0) ≡ true = sym c.is_ascii_digit.ensures.value ∙ c.if-not-is_ascii_digit.false in
    (Continues-more c.args.value c.args.bytes.now c.args.most _ _ _ c.loop-byte.invariant.0 (omega arith) more is_digit c.digit_of.ensures.value, omega arith)
