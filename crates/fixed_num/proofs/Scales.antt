-- One value counted in smaller units is written as the same text.
use Rattle.std.proofs.Common.{◌≡◌, ℕ, ◌+◌, ◌*◌, ◌/◌, ◌%◌, ◌^◌, ◌<◌, zero, suc, eqb, false, [], ◌∷◌, ◌++◌, refl, arith, ap, ◌∙◌, ⊎_elim, ℤ, pos, negsuc, ◌*ℤ◌, neg_ℤ, unsigned_abs, zero-mul}
use Rattle.std.proofs.Math.Nat.{one-le-pow}
use Rattle.std.proofs.lemmas.Bool.Decides.{nat_tests, eqb_tells}
use Rattle.std.proofs.lemmas.Int.{unsigned_abs-mul}
use Rattle.std.proofs.lemmas.Nat.{pow-add, mul-le, div-add-mod', mod_below, div-mul-add, mod-mul-add}
use Rattle.std.specs.Fmt.{decimal}
use Rattle.fixed_num.specs.Shortest.{minus_of, places, fraction_text, shortest_decimal}
use Rattle.fixed_num.proofs.Decimals.{places-none, places-some}

-- dividing in units that are k times smaller
scaled_cut : (n p k : ℕ) → 0 < p → 0 < k → (n * k / (p * k) ≡ n / p) × (n * k % (p * k) ≡ n % p * k)
scaled_cut n p k some more =
    let cut : n / p * p + n % p ≡ n = div-add-mod' n p in
    let rest : n % p < p = mod_below n p some in
    let below : n % p * k < p * k = omega (arith, mul-le (n % p + 1) k p k (omega arith) (omega arith)) in
    let again : n * k ≡ n / p * (p * k) + n % p * k = let e : (n / p * p + n % p) * k ≡ n * k = ap (λ x. x * k) cut in omega arith in
    (ap (λ x. x / (p * k)) again ∙ div-mul-add (n / p) (p * k) (n % p * k) below, ap (λ x. x % (p * k)) again ∙ mod-mul-add (n / p) (p * k) (n % p * k) below)

quotient_scaled : (n d e : ℕ) → n * 10 ^ e / 10 ^ (d + e) ≡ n / 10 ^ d
quotient_scaled n d e = rw (pow-add 10 d e) (scaled_cut n (10 ^ d) (10 ^ e) (one-le-pow d 10 (omega arith)) (one-le-pow e 10 (omega arith))).0

rest_scaled : (n d e : ℕ) → n * 10 ^ e % 10 ^ (d + e) ≡ n % 10 ^ d * 10 ^ e
rest_scaled n d e = rw (pow-add 10 d e) (scaled_cut n (10 ^ d) (10 ^ e) (one-le-pow d 10 (omega arith)) (one-le-pow e 10 (omega arith))).1

some_scaled : (rest e : ℕ) → 0 < rest → 0 < rest * 10 ^ e
some_scaled rest e h = omega (arith, mul-le 1 1 rest (10 ^ e) h (one-le-pow e 10 (omega arith)))

places_of_nothing : (n e : ℕ) → places n (0 * 10 ^ e) ≡ []
places_of_nothing n e = rw (zero-mul (10 ^ e)) (places-none n)

places_scaled : (d e rest : ℕ) → rest < 10 ^ d → places (d + e) (rest * 10 ^ e) ≡ places d rest
places_scaled zero e rest h = let none : rest ≡ 0 = omega arith in rw none (places_of_nothing (0 + e) e)
places_scaled (suc d) e rest h = ⊎_elim
    (λ none. rw (none.0, none.1) (places_of_nothing (suc d + e) e))
    (λ some. let more : suc d + e ≡ suc (d + e) = omega arith in
    ap (λ n. places n (rest * 10 ^ e)) more ∙ places-some (d + e) (rest * 10 ^ e) (some_scaled rest e (omega arith))
    ∙ rw (quotient_scaled rest d e, rest_scaled rest d e, some.0) (ap (λ x. (48 + rest / 10 ^ d) ∷ x) (places_scaled d e (rest % 10 ^ d) (mod_below rest (10 ^ d) (one-le-pow d 10 (omega arith))))))
    (eqb_tells rest 0)

fraction_text_scaled : (d e rest : ℕ) → rest < 10 ^ d → fraction_text (d + e) (rest * 10 ^ e) ≡ fraction_text d rest
fraction_text_scaled d e rest h = ⊎_elim
    (λ none. rw (none.0, none.1, zero-mul (10 ^ e)) refl)
    (λ some. let more : 0 < rest * 10 ^ e = some_scaled rest e (omega arith) in
    let test : eqb (rest * 10 ^ e) 0 ≡ false = grind (arith, nat_tests) in
    rw (some.0, test) (ap (λ x. 46 ∷ x) (places_scaled d e rest h)))
    (eqb_tells rest 0)

minus_of_negative : (m : ℕ) → 0 < m → minus_of (neg_ℤ (pos m)) ≡ 45 ∷ []
minus_of_negative zero h = absurd (omega arith)
minus_of_negative (suc m) h = refl

minus_of_scaled : (count : ℤ) (k : ℕ) → 0 < k → minus_of (count *ℤ pos k) ≡ minus_of count
minus_of_scaled (pos n) k h = refl
minus_of_scaled (negsuc n) k h = minus_of_negative (suc n * k) (omega (arith, mul-le 1 1 (suc n) k (omega arith) h))

pub shortest_decimal_scaled : (d e : ℕ) (count : ℤ) → shortest_decimal (d + e) (count *ℤ pos (10 ^ e)) ≡ shortest_decimal d count
shortest_decimal_scaled d e count =
    let size : unsigned_abs (count *ℤ pos (10 ^ e)) ≡ unsigned_abs count * 10 ^ e = unsigned_abs-mul count (pos (10 ^ e)) in
    let rest : unsigned_abs count % 10 ^ d < 10 ^ d = mod_below (unsigned_abs count) (10 ^ d) (one-le-pow d 10 (omega arith)) in
    rw (size, minus_of_scaled count (10 ^ e) (one-le-pow e 10 (omega arith)), quotient_scaled (unsigned_abs count) d e, rest_scaled (unsigned_abs count) d e)
    (ap (λ x. minus_of count ++ (decimal (unsigned_abs count / 10 ^ d) ++ x)) (fraction_text_scaled d e _ rest))
