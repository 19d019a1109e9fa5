use Rattle.std.proofs.Common.{◌≡◌, ◌+◌, ◌*◌, take, get_or, sym, ap, subst, ◌∙◌, arith, take_all, Some, true}
use Rattle.std.proofs.lemmas.Bool.Decides.{nat_tests}
use Rattle.std.specs.Str.{all_ascii_digits}
use Rattle.std.specs.Str.Parse.{digits_value}
use Rattle.cmd_text.proofs.Digits.{next_digit, digits_more, not_all_digits, small_value, small_next, digit_size, number-some, number-none}
use Rattle.tree_file.proofs.numbers.read_number.Goals as goal

pub returns-then-not-is_ascii_digit : goal.returns-then-not-is_ascii_digit
returns-then-not-is_ascii_digit c =
    let word = c.args.text.now in
    sym (number-none word (not_all_digits word c.loop-byte.byte-index c.loop-byte-test.true (sym c.is_ascii_digit.ensures.value ∙ c.if-not-is_ascii_digit.true)))

pub overflow_mul-value : goal.overflow_mul-value
overflow_mul-value c =
    let small = small_value c.loop-byte.value c.loop-byte.byte-index c.loop-byte.invariant.small (omega (arith, c.loop-byte-test.true, c.if-text-gt-MOST_DIGITS.false)) in
    omega (arith, small)

pub overflow_add-value : goal.overflow_add-value
overflow_add-value c =
    let small = small_value c.loop-byte.value c.loop-byte.byte-index c.loop-byte.invariant.small (omega (arith, c.loop-byte-test.true, c.if-text-gt-MOST_DIGITS.false)) in
    let digit = digit_size (get_or c.args.text.now c.loop-byte.byte-index 0) (sym c.is_ascii_digit.ensures.value ∙ c.if-not-is_ascii_digit.false) in
    omega (arith, small, digit, c.from.ensures)

pub loop-byte-preserved : goal.loop-byte-preserved
loop-byte-preserved c =
    let word = c.args.text.now in
    let i = c.loop-byte.byte-index in
    let v = c.loop-byte.value in
    let digit = sym c.is_ascii_digit.ensures.value ∙ c.if-not-is_ascii_digit.false in
    record {
      digits = digits_more word i c.loop-byte-test.true digit c.loop-byte.invariant.digits;
      value = ap (λ d. v * 10 + d) c.from.ensures ∙ next_digit word i v c.loop-byte-test.true digit c.loop-byte.invariant.value;
      small = small_next v c.from.result i c.loop-byte.invariant.small (omega (arith, digit_size (get_or word i 0) digit, c.from.ensures));
    }

pub returns : goal.returns
returns c =
    let word = c.args.text.now in
    let i = c.loop-byte.byte-index in
    let all : take i word ≡ word = take_all i word c.loop-byte-test.false in
    let digits : all_ascii_digits word ≡ true = subst (λ l. all_ascii_digits l ≡ true) all c.loop-byte.invariant.digits in
    ap Some (c.loop-byte.invariant.value ∙ ap (digits_value 10) all) ∙ sym (number-some word (grind (arith, nat_tests, c.if-is_empty.false, c.is_empty.ensures)) c.if-text-gt-MOST_DIGITS.false digits)
