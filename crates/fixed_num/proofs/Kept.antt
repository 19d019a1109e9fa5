-- What is kept of a count is what would be kept of it after each step of the reader.
use Rattle.std.proofs.Common.{◌≡◌, ℕ, ◌+◌, ◌*◌, ◌%◌, ◌^◌, ◌<◌, ◌≤◌, zero, suc, List, [], ◌∷◌, ◌++◌, length, refl, arith, sym, ap, ◌∙◌, ⊎_elim, zero-mul}
use Rattle.std.proofs.Math.Nat.{one-le-pow, pow-suc}
use Rattle.std.proofs.lemmas.Nat.{mul-le, pow-add}
use Rattle.std.specs.Char.{digit_value}
use Rattle.std.specs.Str.Parse.{digits_value, digits_value_after}
use Rattle.std.proofs.lemmas.Bool.{cases_lt}
use Rattle.std.proofs.lemmas.Bool.Decides.{nat_tests}
use Rattle.fixed_num.specs.Scan.{squeezed}

pub squeezed-small : (n : ℕ) → n < 10 ^ 18 → squeezed n ≡ n
unfolding squeezed
squeezed-small n h = grind (arith, nat_tests)

pub squeezed-great : (n : ℕ) → 10 ^ 18 ≤ n → squeezed n ≡ 10 ^ 18 + n % 10 ^ 6
unfolding squeezed
squeezed-great n h = grind (arith, nat_tests)

pub squeezed-lt : (n : ℕ) → squeezed n < 10 ^ 18 + 10 ^ 6
squeezed-lt n = ⊎_elim (λ h. omega (arith, squeezed-small n h)) (λ h. omega (arith, squeezed-great n h)) (cases_lt n (10 ^ 18))

-- two counts that are both great, with the same last six digits, are kept as one
pub squeezed-same : (m n : ℕ) → 10 ^ 18 ≤ m → 10 ^ 18 ≤ n → m % 10 ^ 6 ≡ n % 10 ^ 6 → squeezed m ≡ squeezed n
squeezed-same m n h k e = squeezed-great m h ∙ ap (λ x. 10 ^ 18 + x) e ∙ sym (squeezed-great n k)

-- the last six digits after a digit, and after the next number
rest-more : (n d : ℕ) → ((10 ^ 18 + n % 10 ^ 6) * 10 + d) % 10 ^ 6 ≡ (n * 10 + d) % 10 ^ 6
rest-more n d = omega arith

rest-next : (n : ℕ) → (10 ^ 18 + n % 10 ^ 6 + 1) % 10 ^ 6 ≡ (n + 1) % 10 ^ 6
rest-next n = omega arith

pub squeezed-more : (n d : ℕ) → squeezed (squeezed n * 10 + d) ≡ squeezed (n * 10 + d)
squeezed-more n d = ⊎_elim (λ h. ap (λ x. squeezed (x * 10 + d)) (squeezed-small n h)) (λ h.
    ap (λ x. squeezed (x * 10 + d)) (squeezed-great n h)
    ∙ squeezed-same _ _ (omega arith) (omega arith) (rest-more n d)) (cases_lt n (10 ^ 18))

pub squeezed-next : (n : ℕ) → squeezed (squeezed n + 1) ≡ squeezed (n + 1)
squeezed-next n = ⊎_elim (λ h. ap (λ x. squeezed (x + 1)) (squeezed-small n h)) (λ h.
    ap (λ x. squeezed (x + 1)) (squeezed-great n h)
    ∙ squeezed-same _ _ (omega arith) (omega arith) (rest-next n)) (cases_lt n (10 ^ 18))

regroup : (n p c : ℕ) → n * (c * p) ≡ c * (n * p)
regroup n p c = omega arith

-- eighteen zeros make each count but 0 a great one, and further zeros change nothing
great_from_zeros : (n z : ℕ) → 0 < n → 10 ^ 18 ≤ n * 10 ^ (18 + z)
great_from_zeros n z h =
    rw (pow-add 10 18 z, regroup n (10 ^ z) (10 ^ 18)) (omega (arith, mul-le 1 1 n (10 ^ z) h (one-le-pow z 10 (omega arith))))

rest_from_zeros : (n z : ℕ) → n * 10 ^ (18 + z) % 10 ^ 6 ≡ 0
rest_from_zeros n z = rw (pow-add 10 18 z, regroup n (10 ^ z) (10 ^ 18)) (omega arith)

pub squeezed-zeros : (n z : ℕ) → squeezed (n * 10 ^ 18) ≡ squeezed (n * 10 ^ (18 + z))
squeezed-zeros zero z = ap squeezed (zero-mul (10 ^ 18) ∙ sym (zero-mul (10 ^ (18 + z))))
squeezed-zeros (suc n) z =
    squeezed-same _ _ (omega arith) (great_from_zeros (suc n) z (omega arith)) (omega (arith, rest_from_zeros (suc n) z))

pub digits_value_after-append : (n : ℕ) (ds es : List ℕ) → digits_value_after 10 n (ds ++ es) ≡ digits_value_after 10 (digits_value_after 10 n ds) es
digits_value_after-append n [] es = refl
digits_value_after-append n (c ∷ cs) es = digits_value_after-append (n * 10 + digit_value c) cs es

pub digits_value_after-is : (n : ℕ) (ds : List ℕ) → digits_value_after 10 n ds ≡ n * 10 ^ length ds + digits_value 10 ds
digits_value_after-is n [] = omega arith
digits_value_after-is n (c ∷ cs) =
    let after : digits_value_after 10 (n * 10 + digit_value c) cs ≡ (n * 10 + digit_value c) * 10 ^ length cs + digits_value 10 cs = digits_value_after-is (n * 10 + digit_value c) cs in
    let first : digits_value_after 10 (0 * 10 + digit_value c) cs ≡ (0 * 10 + digit_value c) * 10 ^ length cs + digits_value 10 cs = digits_value_after-is (0 * 10 + digit_value c) cs in
    rw (pow-suc 10 (length cs)) (omega arith)

-- digits behind others
pub digits_value-append : (ds es : List ℕ) → digits_value 10 (ds ++ es) ≡ digits_value 10 ds * 10 ^ length es + digits_value 10 es
digits_value-append ds es = digits_value_after-append 0 ds es ∙ digits_value_after-is (digits_value 10 ds) es
