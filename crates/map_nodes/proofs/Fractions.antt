-- Fractions in lowest terms have a denominator of at least 1, and no number above 1 divides both of their numbers.
use Rattle.std.proofs.Common.{◌≡◌, ℕ, zero, suc, ◌*◌, ◌/◌, ◌%◌, ◌<◌, ◌≤◌, Bool, true, false, cond, refl, sym, ap, subst, ◌∙◌, arith, lit<, one-mul, ℤ, pos, neg_ℤ, ◌<ℤ◌, ◌≤ℤ◌, unsigned_abs}
use Rattle.std.specs.Int.{◌∣◌, IsGcd}
use Rattle.std.specs.Prelude.{int_div, int_lt, T}
use Rattle.std.specs.Int.Signed.{lt_z_yes}
use Rattle.std.specs.Ordering.{int_eq}
use Rattle.std.proofs.lemmas.Bool.{true≢false}
use Rattle.std.proofs.lemmas.Bool.Decides.{Decides-int_eq}
use Rattle.std.proofs.lemmas.Int.{ints}
use Rattle.std.proofs.lemmas.Nat.Gcd.{IsGcd-from_zero, IsGcd-from_mod, le_of_dvd}
use Rattle.std.proofs.Math.Nat.{mod-lt, eq-zero_of_zero-dvd, one-dvd, dvd-mul_right, dvd_of_mul-dvd-mul_right, mul-div_cancel'}
use Rattle.exact_geom.proofs.Division.{divisor_positive, exact, size_of_quotient, size_positive}
use Rattle.fixed_num.specs.Fraction.{IsReduced}
use Rattle.fixed_num.specs.declared.fraction.Frac.{Frac}
use Rattle.map_nodes.specs.Fractions.{gcd_by, gcd, fraction, fraction_of, not_zero, lowest}

gcd_by_is : (k a b : ℕ) → b < k → IsGcd a b (gcd_by k a b)
gcd_by_is zero a b h = absurd (omega arith)
gcd_by_is (suc k) a zero h = IsGcd-from_zero a 0 refl
gcd_by_is (suc k) a (suc b) h = IsGcd-from_mod a (suc b) (gcd_by k (suc b) (a % suc b)) (gcd_by_is k (suc b) (a % suc b) (omega (arith, h, mod-lt a {m = suc b} (omega arith))))

gcd_is : (a b : ℕ) → IsGcd a b (gcd a b)
gcd_is a b = gcd_by_is (suc b) a b (omega arith)

-- A number is its quotient by a divisor, times the divisor.
size : (x : ℤ) (g : ℕ) → g ∣ unsigned_abs x → unsigned_abs x ≡ g * unsigned_abs (int_div x (pos g))
size x g h = size_of_quotient x (pos g) (int_div x (pos g)) (exact x (pos g) h)

same_size : (t : Bool) (n : ℤ) → unsigned_abs (cond t (neg_ℤ n) n) ≡ unsigned_abs n
same_size true n = omega (arith, ints)
same_size false n = refl

one_only : (k : ℕ) → k ∣ 1 → k ≡ 1
one_only zero h = let e = eq-zero_of_zero-dvd h in absurd (omega arith)
one_only (suc k) h = let l : suc k ≤ 1 = le_of_dvd (lit< tt) h in omega arith

regrouped : (g k a : ℕ) → k * g * a ≡ g * (k * a)
regrouped g k a = grind arith

-- A divisor of the quotient, times g, divides the number.
carried : (x g q k a : ℕ) → x ≡ g * q → k * a ≡ q → (k * g) ∣ x
carried x g q k a e h = subst (λ n. (k * g) ∣ n) (regrouped g k a ∙ ap (λ n. g * n) h ∙ sym e) (dvd-mul_right (k * g) a)

module _ (n d : ℤ) (some : 0 < unsigned_abs d) where
  divisor : IsGcd (unsigned_abs n) (unsigned_abs d) (gcd (unsigned_abs n) (unsigned_abs d))
  divisor = gcd_is (unsigned_abs n) (unsigned_abs d)

  divisor_some : 0 < gcd (unsigned_abs n) (unsigned_abs d)
  divisor_some = divisor_positive (gcd (unsigned_abs n) (unsigned_abs d)) (unsigned_abs d) divisor.1 some

  num_size : unsigned_abs n ≡ gcd (unsigned_abs n) (unsigned_abs d) * unsigned_abs (fraction n d).num
  num_size =
      let m = cond (int_lt d (pos 0)) (neg_ℤ n) n in
      let same : unsigned_abs m ≡ unsigned_abs n = same_size (int_lt d (pos 0)) n in
      sym same ∙ size m (gcd (unsigned_abs n) (unsigned_abs d)) (subst (λ k. gcd (unsigned_abs n) (unsigned_abs d) ∣ k) (sym same) divisor.0)

  den_size : unsigned_abs d ≡ gcd (unsigned_abs n) (unsigned_abs d) * unsigned_abs (fraction n d).den
  den_size = size (pos (unsigned_abs d)) (gcd (unsigned_abs n) (unsigned_abs d)) divisor.1

  in_lowest_terms : IsReduced (fraction n d).num (fraction n d).den
  in_lowest_terms k a b p q =
      let g = gcd (unsigned_abs n) (unsigned_abs d) in
      let divides : (k * g) ∣ g =
      divisor.2 (k * g) (carried (unsigned_abs n) g (unsigned_abs (fraction n d).num) k a num_size p)
      (carried (unsigned_abs d) g (unsigned_abs (fraction n d).den) k b den_size q) in
      one_only k (dvd_of_mul-dvd-mul_right k divisor_some (subst (λ t. (k * g) ∣ t) (sym (one-mul g)) divides))

  positive : pos 1 ≤ℤ (fraction n d).den
  positive = by (gcd (unsigned_abs n) (unsigned_abs d)) (unsigned_abs d / gcd (unsigned_abs n) (unsigned_abs d)) den_size
    where
      by : (g q : ℕ) → unsigned_abs d ≡ g * q → pos 1 ≤ℤ pos q
      by g zero e = absurd (omega (arith, some, e))
      by g (suc q) e = omega (arith, ints)

not_zero_some : (d : ℤ) → 0 < unsigned_abs (not_zero d)
not_zero_some d = by (int_eq d (pos 0)) refl
  where
    by : (t : Bool) → int_eq d (pos 0) ≡ t → 0 < unsigned_abs (cond t (pos 1) d)
    by true e = lit< tt
    by false e = size_positive d (λ z. true≢false (sym ((Decides-int_eq d (pos 0)).1 z) ∙ e))

pub den_is_positive : (n d : ℤ) → pos 1 ≤ℤ (lowest n d).den
den_is_positive n d = positive n (not_zero d) (not_zero_some d)

pub is_in_lowest_terms : (n d : ℤ) → IsReduced (lowest n d).num (lowest n d).den
is_in_lowest_terms n d = in_lowest_terms n (not_zero d) (not_zero_some d)

-- Numbers in lowest terms stay.
int_div-one : (x : ℤ) → int_div x (pos 1) ≡ x
int_div-one x = let e = exact x (pos 1) (one-dvd (unsigned_abs x)) in omega (arith, ints, e)

not_zero_is : (d : ℤ) → pos 1 ≤ℤ d → int_eq d (pos 0) ≡ false
not_zero_is d h = by (int_eq d (pos 0)) refl
  where
    by : (t : Bool) → int_eq d (pos 0) ≡ t → int_eq d (pos 0) ≡ false
    by true e = let z = (Decides-int_eq d (pos 0)).0 e in absurd (omega (arith, ints))
    by false e = e

not_below : (d : ℤ) → pos 1 ≤ℤ d → int_lt d (pos 0) ≡ false
not_below d h = by (int_lt d (pos 0)) refl
  where
    by : (t : Bool) → int_lt d (pos 0) ≡ t → int_lt d (pos 0) ≡ false
    by true e = let below : d <ℤ pos 0 = lt_z_yes (subst T (sym e) tt) in absurd (omega (arith, ints))
    by false e = e

positive_size : (d : ℤ) → pos 1 ≤ℤ d → pos (unsigned_abs d) ≡ d
positive_size d h = omega (arith, ints)

divisor_is_one : (n d : ℤ) → IsReduced n d → gcd (unsigned_abs n) (unsigned_abs d) ≡ 1
divisor_is_one n d reduced =
    let g = gcd (unsigned_abs n) (unsigned_abs d) in
    let is = gcd_is (unsigned_abs n) (unsigned_abs d) in
    reduced g (unsigned_abs n / g) (unsigned_abs d / g) (mul-div_cancel' g is.0) (mul-div_cancel' g is.1)

pub lowest_again : (f : Frac) → lowest f.num f.den ≡ fraction_of f
lowest_again f =
    let n = f.num in let d = f.den in
    let one = divisor_is_one n d f.reduced in
    ap (fraction n) (ap (λ t. cond t (pos 1) d) (not_zero_is d f.positive))
    ∙ (λ i. record { num = int_div (cond (not_below d f.positive i) (neg_ℤ n) n) (pos (one i)); den = int_div (pos (unsigned_abs d)) (pos (one i)) })
    ∙ (λ i. record { num = int_div-one n i; den = (int_div-one (pos (unsigned_abs d)) ∙ positive_size d f.positive) i })
