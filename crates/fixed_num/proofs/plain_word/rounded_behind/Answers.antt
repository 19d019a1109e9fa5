use Rattle.std.proofs.Common.{◌≡◌, ◌+◌, ◌*◌, ◌-◌, ◌^◌, ◌<◌, ◌≤◌, true, false, ltb, length, drop, get_or, arith, sym, ◌∙◌, subst, refl}
use Rattle.std.proofs.lemmas.Bool.Decides.{nat_tests}
use Rattle.std.specs.Str.Parse.{AllDigits}
use Rattle.fixed_num.specs.PlainWord.{IsRoundedBehind}
use Rattle.fixed_num.proofs.Plain.{size_fits, total_fits, later_digits, next_behind, none_behind, rounded_behind_all, rounded_behind_cut}
use Rattle.fixed_num.proofs.plain_word.rounded_behind.Goals as goal

pub overflow_mul-result : goal.overflow_mul-result
overflow_mul-result c =
    let fits : c.continued-total.result.0 * 10 ^ (c.args.decimals - c.continued-total.result.1) ≤ 10 ^ 18 = size_fits c.args.whole c.args.fraction.now c.args.decimals _ _ c.requires.few c.requires.small c.continued-total.ensures in
    let power : c.power_of_ten.result ≡ 10 ^ (c.args.decimals - c.continued-total.result.1) = c.power_of_ten.ensures in
    rw power (omega arith)

pub returns-then-is_empty : goal.returns-then-is_empty
returns-then-is_empty c =
    let power : c.power_of_ten.result ≡ 10 ^ (c.args.decimals - c.continued-total.result.1) = c.power_of_ten.ensures in
    let none : length c.args.fraction.now ≤ c.continued-total.result.1 = none_behind _ _ c.if-is_empty.ensures in
    rw power (rounded_behind_all c.args.whole c.args.fraction.now c.args.decimals _ _ c.requires.few c.requires.small c.continued-total.ensures none)

pub overflow_add-result : goal.overflow_add-result
overflow_add-result c = omega (arith, total_fits c.args.whole c.args.fraction.now c.args.decimals _ _ (omega arith) c.requires.small c.continued-total.ensures)

pub returns-then-behind-lt-HALF : goal.returns-then-behind-lt-HALF
returns-then-behind-lt-HALF c =
    let at_end : c.continued-total.result.1 ≡ c.args.decimals = omega arith in
    let later : AllDigits 10 (drop c.continued-total.result.1 c.args.fraction.now) = later_digits c.continued-total.result.1 c.args.fraction.now (sym c.all_digits.ensures ∙ c.if-not-all_digits.false) in
    let next : get_or c.args.fraction.now c.continued-total.result.1 0 < 53 = rw (next_behind c.continued-total.result.1 c.args.fraction.now) at (c.if-behind-lt-HALF.true) in
    let test : ltb (get_or c.args.fraction.now c.continued-total.result.1 0) 53 ≡ true = grind (arith, nat_tests) in
    let none : c.continued-total.result.0 + 0 ≡ c.continued-total.result.0 = omega arith in
    subst (IsRoundedBehind c.args.decimals c.args.whole c.args.fraction.now) none (rounded_behind_cut c.args.whole c.args.fraction.now c.args.decimals _ _ 0 c.requires.few c.requires.small c.continued-total.ensures at_end later (rw test refl) (omega arith))

pub returns-else-behind-lt-HALF : goal.returns-else-behind-lt-HALF
returns-else-behind-lt-HALF c =
    let at_end : c.continued-total.result.1 ≡ c.args.decimals = omega arith in
    let later : AllDigits 10 (drop c.continued-total.result.1 c.args.fraction.now) = later_digits c.continued-total.result.1 c.args.fraction.now (sym c.all_digits.ensures ∙ c.if-not-all_digits.false) in
    let next : 53 ≤ get_or c.args.fraction.now c.continued-total.result.1 0 = rw (next_behind c.continued-total.result.1 c.args.fraction.now) at (c.if-behind-lt-HALF.false) in
    let test : ltb (get_or c.args.fraction.now c.continued-total.result.1 0) 53 ≡ false = grind (arith, nat_tests) in
    rounded_behind_cut c.args.whole c.args.fraction.now c.args.decimals _ _ 1 c.requires.few c.requires.small c.continued-total.ensures at_end later (rw test refl) (omega arith)
