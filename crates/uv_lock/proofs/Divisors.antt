-- What is left of two numbers when they are divided by their greatest common divisor.
use Rattle.std.proofs.Common.{◌≡◌, ℕ, zero, suc, ◌*◌, ◌%◌, ◌<◌, ◌≤◌, true, false, cond, refl, arith, sym, ap, subst, ◌∙◌, mul_comm, mul_assoc, one-mul, lit<, ◌^◌, FitsSigned, to_z, of_z, ℤ, pos, negsuc, neg_ℤ, ◌<ℤ◌, ◌≤ℤ◌, unsigned_abs}
use Rattle.std.specs.Prelude.{int_div, int_lt}
use Rattle.std.specs.Int.{◌∣◌, IsGcd, w128}
use Rattle.std.proofs.lemmas.Int.{ints, to_z-of_z, to_z_pos, fits_signed_from_abs}
use Rattle.std.proofs.lemmas.Nat.Gcd.{IsGcd-from_mod, IsGcd-from_zero, same_from_IsGcd, le_of_dvd}
use Rattle.std.proofs.Math.Nat.{eq-zero_of_zero-dvd, dvd_of_mul-dvd-mul_right, dvd-mul_left}
use Rattle.algebra.proofs.Orders.{positive_of_product}
use Rattle.exact_geom.proofs.Division.{divisor_positive, exact, quotient_size, size_of_quotient}
use Rattle.fixed_num.specs.Fraction.{IsReduced}
use Rattle.uv_lock.specs.Fractions.{fraction, gcd, gcd_by}

-- ---- the divisor that the definition computes
gcd_by_is : (k a b : ℕ) → b < k → IsGcd a b (gcd_by k a b)
gcd_by_is zero a b h = absurd (omega arith)
gcd_by_is (suc k) a zero h = IsGcd-from_zero a 0 refl
gcd_by_is (suc k) a (suc b) h = IsGcd-from_mod a (suc b) _ (gcd_by_is k (suc b) (a % suc b) (omega arith))

pub gcd_is : (a b : ℕ) → IsGcd a b (gcd a b)
gcd_is a b = gcd_by_is (suc b) a b (omega arith)

size_is : (d : ℤ) → pos 0 <ℤ d → pos (unsigned_abs d) ≡ d
size_is (pos n) h = refl
size_is (negsuc n) h = absurd (omega (arith, ints))

not_below : (d : ℤ) → pos 0 <ℤ d → int_lt d (pos 0) ≡ false
not_below (pos n) h = grind (arith, ints)
not_below (negsuc n) h = absurd (omega (arith, ints))

-- n / d by the greatest common divisor, where d is above 0
pub lowest_is : (n d : ℤ) (g : ℕ) → pos 0 <ℤ d → IsGcd (unsigned_abs n) (unsigned_abs d) g →
    record { num = int_div n (pos g); den = int_div d (pos g) } ≡ fraction n d
lowest_is n d g p h =
    let e : g ≡ gcd (unsigned_abs n) (unsigned_abs d) = same_from_IsGcd (unsigned_abs n) (unsigned_abs d) g (gcd (unsigned_abs n) (unsigned_abs d)) h (gcd_is (unsigned_abs n) (unsigned_abs d)) in
    λ i. record {
      num = int_div (cond (sym (not_below d p) i) (neg_ℤ n) n) (pos (e i));
      den = int_div (sym (size_is d p) i) (pos (e i));
    }

-- the same with both signs changed, where d is below 0
size_of_minus : (n : ℤ) → unsigned_abs (neg_ℤ n) ≡ unsigned_abs n
size_of_minus n = omega (arith, ints)

below : (d : ℤ) → d <ℤ pos 0 → int_lt d (pos 0) ≡ true
below (negsuc n) h = refl
below (pos n) h = absurd (omega (arith, ints))

minus_not_below : (d : ℤ) → d <ℤ pos 0 → int_lt (neg_ℤ d) (pos 0) ≡ false
minus_not_below (negsuc n) h = grind (arith, ints)
minus_not_below (pos n) h = absurd (omega (arith, ints))

pub turned_signs : (n d : ℤ) → d <ℤ pos 0 → fraction (neg_ℤ n) (neg_ℤ d) ≡ fraction n d
turned_signs n d h =
    (λ i. record {
      num = int_div (cond (minus_not_below d h i) (neg_ℤ (neg_ℤ n)) (neg_ℤ n)) (pos (gcd (size_of_minus n i) (size_of_minus d i)));
      den = int_div (pos (size_of_minus d i)) (pos (gcd (size_of_minus n i) (size_of_minus d i)));
    })
    ∙ (λ i. record {
      num = int_div (cond (sym (below d h) i) (neg_ℤ n) n) (pos (gcd (unsigned_abs n) (unsigned_abs d)));
      den = int_div (pos (unsigned_abs d)) (pos (gcd (unsigned_abs n) (unsigned_abs d)));
    })

-- ---- what is left
divisor_some : (n d : ℤ) (g : ℕ) → pos 0 <ℤ d → IsGcd (unsigned_abs n) (unsigned_abs d) g → 0 < g
divisor_some n d g p h = divisor_positive g (unsigned_abs d) h.1 (omega (arith, ints))

divisor_small : (n d : ℤ) (g : ℕ) → pos 0 <ℤ d → IsGcd (unsigned_abs n) (unsigned_abs d) g → g ≤ unsigned_abs d
divisor_small n d g p h = le_of_dvd (omega (arith, ints)) h.1

pub positive_quotient : (n d : ℤ) (g : ℕ) → pos 0 <ℤ d → IsGcd (unsigned_abs n) (unsigned_abs d) g → pos 1 ≤ℤ int_div d (pos g)
positive_quotient n d g p h =
    let s = divisor_some n d g p h in
    let l : pos 0 <ℤ int_div d (pos g) = positive_of_product (pos g) (omega (arith, ints)) (subst (λ t. pos 0 <ℤ t) (exact d (pos g) h.1) p) in
    omega (arith, ints)

one_only : (k : ℕ) → k ∣ 1 → k ≡ 1
one_only zero h = let e = eq-zero_of_zero-dvd h in absurd (omega arith)
one_only (suc k) h = let l : suc k ≤ 1 = le_of_dvd (lit< tt) h in omega arith

regroup : (a k g : ℕ) → a * (k * g) ≡ g * (k * a)
regroup a k g = mul_comm a (k * g) ∙ ap (λ t. t * a) (mul_comm k g) ∙ mul_assoc g k a

-- a divisor of the quotient, times g, divides the number
carries : (k a g : ℕ) (x : ℤ) → g ∣ unsigned_abs x → k * a ≡ unsigned_abs (int_div x (pos g)) → (k * g) ∣ unsigned_abs x
carries k a g x h e =
    let s : unsigned_abs x ≡ g * unsigned_abs (int_div x (pos g)) = size_of_quotient x (pos g) (int_div x (pos g)) (exact x (pos g) h) in
    subst (λ t. (k * g) ∣ t) (regroup a k g ∙ ap (λ t. g * t) e ∙ sym s) (dvd-mul_left (k * g) a)

pub quotients_reduced : (n d : ℤ) (g : ℕ) → pos 0 <ℤ d → IsGcd (unsigned_abs n) (unsigned_abs d) g → IsReduced (int_div n (pos g)) (int_div d (pos g))
quotients_reduced n d g p h = λ k a b e f.
    one_only k (dvd_of_mul-dvd-mul_right k (divisor_some n d g p h)
    (subst (λ t. (k * g) ∣ t) (sym (one-mul g)) (h.2 (k * g) (carries k a g n h.0 e) (carries k b g d h.1 f))))

-- ---- what the machine's divisions give
abbrev wide : ℤ → ℤ
wide z = to_z w128 (of_z w128 z)

small_fits : (z : ℤ) → unsigned_abs z ≤ 10 ^ 34 → FitsSigned w128 z
small_fits z h = fits_signed_from_abs w128 z (omega arith)

quotient_is : (x : ℤ) (g : ℕ) → unsigned_abs x ≤ 10 ^ 34 → g ≤ 10 ^ 34 → int_div (wide x) (to_z w128 g) ≡ int_div x (pos g)
quotient_is x g h k = let gs : to_z w128 g ≡ pos g = to_z_pos w128 g (omega arith) in λ i. int_div (to_z-of_z w128 x (small_fits x h) i) (gs i)

small_quotient : (x : ℤ) (g : ℕ) → unsigned_abs x ≤ 10 ^ 34 → g ∣ unsigned_abs x → 0 < g → FitsSigned w128 (int_div x (pos g))
small_quotient x g h l p = let s = quotient_size x (pos g) l p in small_fits (int_div x (pos g)) (omega arith)

quotient_fits : (x : ℤ) (g : ℕ) → unsigned_abs x ≤ 10 ^ 34 → g ≤ 10 ^ 34 → g ∣ unsigned_abs x → 0 < g → FitsSigned w128 (int_div (wide x) (to_z w128 g))
quotient_fits x g h k l p = subst (FitsSigned w128) (sym (quotient_is x g h k)) (small_quotient x g h l p)

quotient_kept : (x : ℤ) (g : ℕ) → unsigned_abs x ≤ 10 ^ 34 → g ≤ 10 ^ 34 → g ∣ unsigned_abs x → 0 < g → wide (int_div (wide x) (to_z w128 g)) ≡ int_div x (pos g)
quotient_kept x g h k l p = ap wide (quotient_is x g h k) ∙ to_z-of_z w128 (int_div x (pos g)) (small_quotient x g h l p)

size_kept : (x : ℤ) → unsigned_abs x ≤ 10 ^ 34 → unsigned_abs (wide x) ≡ unsigned_abs x
size_kept x h = ap unsigned_abs (to_z-of_z w128 x (small_fits x h))

-- the fraction n / d, by a divisor of the machine
pub record Lowest (n d : ℤ) (g : ℕ) : Type 0 where
  pub fits : FitsSigned w128 (pos g)
  pub some : 0 < g
  pub num_fits : FitsSigned w128 (int_div (wide n) (to_z w128 g))
  pub den_fits : FitsSigned w128 (int_div (wide d) (to_z w128 g))
  pub positive : pos 1 ≤ℤ wide (int_div (wide d) (to_z w128 g))
  pub reduced : IsReduced (wide (int_div (wide n) (to_z w128 g))) (wide (int_div (wide d) (to_z w128 g)))
  pub value : record { num = wide (int_div (wide n) (to_z w128 g)); den = wide (int_div (wide d) (to_z w128 g)) } ≡ fraction n d

by_gcd : (n d : ℤ) (g : ℕ) → pos 0 <ℤ d → unsigned_abs n ≤ 10 ^ 34 → unsigned_abs d ≤ 10 ^ 34 → IsGcd (unsigned_abs n) (unsigned_abs d) g → Lowest n d g
by_gcd n d g p i j h =
    let some = divisor_some n d g p h in
    let least = divisor_small n d g p h in
    let small : g ≤ 10 ^ 34 = omega arith in
    let num = quotient_kept n g i small h.0 some in
    let den = quotient_kept d g j small h.1 some in
    record {
      fits = small_fits (pos g) small;
      some = some;
      num_fits = quotient_fits n g i small h.0 some;
      den_fits = quotient_fits d g j small h.1 some;
      positive = subst (λ t. pos 1 ≤ℤ t) (sym den) (positive_quotient n d g p h);
      reduced = λ k a b e f. quotients_reduced n d g p h k a b (e ∙ ap unsigned_abs num) (f ∙ ap unsigned_abs den);
      value = (λ t. record { num = num t; den = den t }) ∙ lowest_is n d g p h;
    }

pub lowest : (n d : ℤ) (a b g : ℕ) → pos 0 <ℤ d → unsigned_abs n ≤ 10 ^ 34 → unsigned_abs d ≤ 10 ^ 34 → a ≡ unsigned_abs (wide n) → b ≡ unsigned_abs (wide d) → IsGcd a b g → Lowest n d g
lowest n d a b g p i j e f h =
    by_gcd n d g p i j (subst (λ t. IsGcd t (unsigned_abs d) g) (e ∙ size_kept n i) (subst (λ t. IsGcd a t g) (f ∙ size_kept d j) h))
