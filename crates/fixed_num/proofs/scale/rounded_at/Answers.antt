use Rattle.std.proofs.Common.{◌≡◌, ℕ, List, ◌++◌, ◌+◌, ◌*◌, ◌-◌, ◌^◌, length, take, refl, arith, sym, ◌∙◌}
use Rattle.std.specs.Str.Parse.{digits_value_after}
use Rattle.fixed_num.specs.Scan.{squeezed}
use Rattle.fixed_num.proofs.Kept.{squeezed-small}
use Rattle.fixed_num.proofs.Rounding.{AllDigits-take}
use Rattle.fixed_num.proofs.Steps.{kept_at, rounded_up, rounded_down}
use Rattle.fixed_num.proofs.scale.rounded_at.Goals as goal

pub with_digits-kept-requires-clause-all_digits : goal.with_digits-kept-requires-clause-all_digits
with_digits-kept-requires-clause-all_digits c = rw (c.front.ensures) (AllDigits-take _ _ c.requires.whole_digits)

pub with_digits-kept-requires-2-clause-all_digits : goal.with_digits-kept-requires-2-clause-all_digits
with_digits-kept-requires-2-clause-all_digits c = rw (c.front-2.ensures) (AllDigits-take _ _ c.requires.fraction_digits)

pub returns-then-byte_at-ge-HALF : goal.returns-then-byte_at-ge-HALF
returns-then-byte_at-ge-HALF c =
    let whole : List ℕ = c.args.whole.now in
    let fraction : List ℕ = c.args.fraction.now in
    let first : c.with_digits-kept.result ≡ squeezed (digits_value_after 10 0 (take c.args.places whole)) = c.with_digits-kept.ensures.value 0 (sym (squeezed-small 0 (omega arith))) ∙ rw c.front.ensures refl in
    let second : c.with_digits-kept-2.result ≡ squeezed (digits_value_after 10 (digits_value_after 10 0 (take c.args.places whole)) (take (c.args.places - length whole) fraction)) =
    c.with_digits-kept-2.ensures.value _ first ∙ rw (c.front-2.ensures, c.saturating_sub.ensures) refl in
    let third : c.with_zeros-kept.result ≡ squeezed (digits_value_after 10 (digits_value_after 10 0 (take c.args.places whole)) (take (c.args.places - length whole) fraction) * 10 ^ (c.args.places - (length whole + length fraction))) =
    c.with_zeros-kept.ensures.value _ second ∙ rw c.saturating_sub-2.ensures refl in
    rounded_up (whole ++ fraction) c.args.places _ _ (kept_at whole fraction c.args.places _ _ _ first second third) (omega arith) c.squeezed.ensures.value

pub returns-else-byte_at-ge-HALF : goal.returns-else-byte_at-ge-HALF
returns-else-byte_at-ge-HALF c =
    let whole : List ℕ = c.args.whole.now in
    let fraction : List ℕ = c.args.fraction.now in
    let first : c.with_digits-kept.result ≡ squeezed (digits_value_after 10 0 (take c.args.places whole)) = c.with_digits-kept.ensures.value 0 (sym (squeezed-small 0 (omega arith))) ∙ rw c.front.ensures refl in
    let second : c.with_digits-kept-2.result ≡ squeezed (digits_value_after 10 (digits_value_after 10 0 (take c.args.places whole)) (take (c.args.places - length whole) fraction)) =
    c.with_digits-kept-2.ensures.value _ first ∙ rw (c.front-2.ensures, c.saturating_sub.ensures) refl in
    let third : c.with_zeros-kept.result ≡ squeezed (digits_value_after 10 (digits_value_after 10 0 (take c.args.places whole)) (take (c.args.places - length whole) fraction) * 10 ^ (c.args.places - (length whole + length fraction))) =
    c.with_zeros-kept.ensures.value _ second ∙ rw c.saturating_sub-2.ensures refl in
    rounded_down (whole ++ fraction) c.args.places _ (kept_at whole fraction c.args.places _ _ _ first second third) (omega arith)
