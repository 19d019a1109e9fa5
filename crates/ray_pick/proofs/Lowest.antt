-- The two numbers of a fraction, divided by their greatest common divisor.
use Rattle.std.proofs.Common.{◌≡◌, ℕ, zero, suc, ◌*◌, ◌/◌, ◌<◌, ◌≤◌, ◌^◌, ℤ, pos, ◌*ℤ◌, ◌<ℤ◌, ◌≤ℤ◌, unsigned_abs, to_z, of_z, FitsSigned, arith, ap, sym, subst, ◌∙◌, refl}
use Rattle.std.specs.Int.{◌∣◌, IsGcd, w128}
use Rattle.std.proofs.lemmas.Int.{ints, to_z_pos, fits_signed_from_abs}
use Rattle.std.proofs.lemmas.Nat.Gcd.{le_of_dvd}
use Rattle.std.proofs.Math.Nat.{dvd-mul_right, mul-div_cancel', div-le_self}
use Rattle.exact_geom.proofs.Division.{divisor_positive}
use Rattle.ray_pick.specs.Rays.{IsRatio}
use Rattle.ray_pick.proofs.Sizes.{small}

factors : (g k a n : ℕ) → n ≡ g * (k * a) → (g * k) ∣ n
factors g k a n e = subst (λ m. (g * k) ∣ m) (let h : (g * k) * a ≡ g * (k * a) = grind arith in h ∙ sym e) (dvd-mul_right (g * k) a)

at_most_once : (g k : ℕ) → 0 < g → g * k ≤ g → k ≤ 1
at_most_once g zero h l = omega arith
at_most_once g (suc zero) h l = omega arith
at_most_once g (suc (suc k)) h l = absurd (grind arith)

crossed : (g q r : ℕ) → (g * q) * r ≡ q * (g * r)
crossed g q r = grind arith

-- The size of a number of at least 0, as the machine has it.
pub record IsSizeOf (x : ℤ) (n : ℕ) : Type 0 where
  pub is : x ≡ pos n
  pub size : n < 2 ^ 42

pub record IsPositiveSizeOf (x : ℤ) (n : ℕ) : Type 0 where
  pub is : x ≡ pos n
  pub size : n < 2 ^ 42
  pub some : 0 < n

pub top_is : (x : ℤ) (n : ℕ) → pos 0 ≤ℤ x → unsigned_abs x < 2 ^ 42 → n ≡ unsigned_abs (to_z w128 (of_z w128 x)) → IsSizeOf x n
top_is x n h l e =
    let k : n ≡ unsigned_abs x = e ∙ ap unsigned_abs (small x l).is in
    record { is = omega (arith, ints, k); size = omega (arith, k) }

pub bottom_is : (x : ℤ) (n : ℕ) → pos 0 <ℤ x → unsigned_abs x < 2 ^ 42 → n ≡ unsigned_abs (to_z w128 (of_z w128 x)) → IsPositiveSizeOf x n
bottom_is x n h l e =
    let k : n ≡ unsigned_abs x = e ∙ ap unsigned_abs (small x l).is in
    record { is = omega (arith, ints, k); size = omega (arith, k); some = omega (arith, ints, k) }

pub quotient_fits : (n g : ℕ) → n < 2 ^ 42 → FitsSigned w128 (pos (n / g))
quotient_fits n g h = let l = div-le_self n g in fits_signed_from_abs w128 (pos (n / g)) (omega arith)

pub kept_is : (n g : ℕ) → n < 2 ^ 42 → to_z w128 (n / g) ≡ pos (n / g)
kept_is n g h = let l = div-le_self n g in to_z_pos w128 (n / g) (omega arith)

module _ (num den : ℤ) (n d g : ℕ) (num_is : num ≡ pos n) (den_is : den ≡ pos d) (some : 0 < d) (gcd : IsGcd n d g) where
  pub divisor_is_some : 0 < g
  divisor_is_some = divisor_positive g d gcd.1 some

  top : g * (n / g) ≡ n
  top = mul-div_cancel' g gcd.0

  bottom : g * (d / g) ≡ d
  bottom = mul-div_cancel' g gcd.1

  bottom_is_some : 0 < d / g
  bottom_is_some = by (d / g) bottom
    where
      by : (r : ℕ) → g * r ≡ d → 0 < r
      by zero e = absurd (grind arith)
      by (suc r) e = omega arith

  reduced : (k a b : ℕ) → k * a ≡ n / g → k * b ≡ d / g → k ≡ 1
  reduced k a b x y =
      let whole : (g * k) ∣ g = gcd.2 (g * k) (factors g k a n (sym top ∙ ap (λ q. g * q) (sym x))) (factors g k b d (sym bottom ∙ ap (λ q. g * q) (sym y))) in
      let most : k ≤ 1 = at_most_once g k divisor_is_some (le_of_dvd divisor_is_some whole) in
      by k b y most bottom_is_some
    where
      by : (k b : ℕ) → k * b ≡ d / g → k ≤ 1 → 0 < d / g → k ≡ 1
      by zero b e l s = absurd (grind arith)
      by (suc zero) b e l s = refl
      by (suc (suc k)) b e l s = absurd (omega arith)

  module _ (p q : ℤ) (p_is : p ≡ pos (n / g)) (q_is : q ≡ pos (d / g)) (num_size : n < 2 ^ 42) (den_size : d < 2 ^ 42) where
    pub equal : num *ℤ q ≡ p *ℤ den
    equal =
        let whole : n * (d / g) ≡ (n / g) * d = ap (λ m. m * (d / g)) (sym top) ∙ crossed g (n / g) (d / g) ∙ ap (λ m. (n / g) * m) bottom in
        (λ i. num_is i *ℤ q_is i) ∙ ap pos whole ∙ (λ i. sym p_is i *ℤ sym den_is i)

    pub is_ratio : IsRatio (record { num = p; den = q })
    is_ratio =
        let small_top = div-le_self n g in
        let small_bottom = div-le_self d g in
        let s = bottom_is_some in
        record {
          on_ray = record { nonneg = omega (arith, ints, p_is); positive = omega (arith, ints, q_is) };
          reduced = λ k a b x y. reduced k a b (x ∙ ap unsigned_abs p_is) (y ∙ ap unsigned_abs q_is);
          num_size = omega (arith, ints, p_is);
          den_size = omega (arith, ints, q_is);
        }
