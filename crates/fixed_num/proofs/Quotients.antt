-- A quotient without a remainder has the size of the division's quotient, and the remainder is 0.
use Rattle.std.proofs.Common.{◌≡◌, ◌≢◌, ℕ, ◌/◌, ◌%◌, ◌<◌, ◌≤◌, zero, suc, refl, arith, sym, ap, ◌∙◌, ℤ, pos, negsuc, neg_ℤ, ◌*ℤ◌, ◌+ℤ◌, unsigned_abs}
use Rattle.std.specs.Prelude.{int_div, int_rem}
use Rattle.fixed_num.specs.Quotient.{IsQuotientBelow}
use Rattle.std.proofs.Math.Nat.{mul-mod_left, mul-div_cancel}
use Rattle.std.proofs.lemmas.Int.{ints, unsigned_abs-mul, quot-rem}

unsigned_abs-neg : (n : ℕ) → unsigned_abs (neg_ℤ (pos n)) ≡ n
unsigned_abs-neg zero = refl
unsigned_abs-neg (suc n) = refl

size_of_quotient : (n d : ℤ) → unsigned_abs (int_div n d) ≡ unsigned_abs n / unsigned_abs d
size_of_quotient (pos a) (pos b) = refl
size_of_quotient (pos a) (negsuc b) = unsigned_abs-neg _
size_of_quotient (negsuc a) (pos b) = unsigned_abs-neg _
size_of_quotient (negsuc a) (negsuc b) = refl

size_of_remainder : (n d : ℤ) → unsigned_abs (int_rem n d) ≡ unsigned_abs n % unsigned_abs d
size_of_remainder (pos a) (pos b) = refl
size_of_remainder (pos a) (negsuc b) = refl
size_of_remainder (negsuc a) (pos b) = unsigned_abs-neg _
size_of_remainder (negsuc a) (negsuc b) = unsigned_abs-neg _

zero_from_size : (z : ℤ) → unsigned_abs z ≡ 0 → z ≡ pos 0
zero_from_size (pos n) e = ap pos e
zero_from_size (negsuc n) e = absurd (omega arith)

size_above_zero : (d : ℤ) → d ≢ pos 0 → 0 < unsigned_abs d
size_above_zero (pos zero) h = absurd (h refl)
size_above_zero (pos (suc n)) h = omega arith
size_above_zero (negsuc n) h = omega arith

pub quotient_is_size : (n d k : ℤ) → d ≢ pos 0 → k *ℤ d ≡ n → unsigned_abs (int_div n d) ≡ unsigned_abs k
quotient_is_size n d k some e =
    size_of_quotient n d ∙ ap (λ z. unsigned_abs z / unsigned_abs d) (sym e) ∙ ap (λ z. z / unsigned_abs d) (unsigned_abs-mul k d) ∙ mul-div_cancel (unsigned_abs k) (size_above_zero d some)

pub no_remainder : (n d k : ℤ) → k *ℤ d ≡ n → int_rem n d ≡ pos 0
no_remainder n d k e =
    zero_from_size (int_rem n d)
    (size_of_remainder n d ∙ ap (λ z. unsigned_abs z % unsigned_abs d) (sym e) ∙ ap (λ z. z % unsigned_abs d) (unsigned_abs-mul k d) ∙ mul-mod_left (unsigned_abs k) (unsigned_abs d))

-- a remainder that is not 0, or a quotient that is too large, leaves no number
pub none_with_remainder : (n d limit k : ℤ) → int_rem n d ≢ pos 0 → IsQuotientBelow n d limit k → ⊥
none_with_remainder n d limit k some h = some (no_remainder n d k (h.0))

pub none_past_limit : (n d limit k : ℤ) → d ≢ pos 0 → unsigned_abs limit ≤ unsigned_abs (int_div n d) → IsQuotientBelow n d limit k → ⊥
none_past_limit n d limit k some past h =
    let size : unsigned_abs (int_div n d) ≡ unsigned_abs k = quotient_is_size n d k some (h.0) in
    let below : unsigned_abs k < unsigned_abs limit = h.1 in
    omega arith

plus_zero : (z : ℤ) → z ≡ z +ℤ pos 0
plus_zero z = omega (arith, ints)

pub whole_quotient : (n d : ℤ) → int_rem n d ≡ pos 0 → int_div n d *ℤ d ≡ n
whole_quotient n d e = plus_zero (int_div n d *ℤ d) ∙ ap (λ r. int_div n d *ℤ d +ℤ r) (sym e) ∙ quot-rem n d
