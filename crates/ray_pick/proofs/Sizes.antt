-- Machine numbers below 2^42, and their products.
use Rattle.std.proofs.Common.{◌≡◌, ℕ, ◌*◌, ◌^◌, ◌<◌, ◌≤◌, ℤ, pos, ◌*ℤ◌, ◌<ℤ◌, unsigned_abs, to_z, of_z, arith, subst, sym, refl, Bool, true, false}
use Rattle.std.specs.Int.{w128}
use Rattle.std.specs.Bool.{Decides}
use Rattle.std.specs.Prelude.{int_lt}
use Rattle.std.proofs.lemmas.Int.{ints}
use Rattle.exact_geom.proofs.Exactly.{Exactly, var, times}
use mir.Syntax.{Width}
use Rattle.ray_pick.specs.Rays.{Fraction, IsEarlier}

-- A number below 2^42 stays what it is in 128 bits.
pub small : (x : ℤ) → unsigned_abs x < 2 ^ 42 → Exactly w128 (to_z w128 (of_z w128 x)) x (2 ^ 42)
small x h = var w128 x (omega arith) tt

pub product : (x y : ℤ) → unsigned_abs x < 2 ^ 42 → unsigned_abs y < 2 ^ 42 →
    Exactly w128 (to_z w128 (of_z w128 (to_z w128 (of_z w128 x) *ℤ to_z w128 (of_z w128 y)))) (x *ℤ y) (2 ^ 42 * 2 ^ 42)
product x y h k = times (small x h) (small y k) tt

-- What is at most n in size is at most any greater number.
pub size_within : {w : Width} {m z : ℤ} {n : ℕ} (k : ℕ) → Exactly w m z n → n ≤ k → unsigned_abs m ≤ k
size_within {w} {m} {z} {n} k e h = let s = e.size in subst (λ x. unsigned_abs x ≤ k) (sym e.is) (omega arith)

decides_less : (x y : ℤ) → Decides (int_lt x y) (x <ℤ y)
decides_less x y = (λ e. omega (arith, ints), λ h. by (int_lt x y) refl h)
  where
    by : (t : Bool) → int_lt x y ≡ t → x <ℤ y → t ≡ true
    by true e h = refl
    by false e h = absurd (omega (arith, ints))

-- The test on numbers that are x and y.
pub less_tells : (m n x y : ℤ) → m ≡ x → n ≡ y → Decides (int_lt m n) (x <ℤ y)
less_tells m n x y e f = subst (λ z. Decides (int_lt m n) (z <ℤ y)) e (subst (λ z. Decides (int_lt m n) (m <ℤ z)) f (decides_less m n))

-- The same of equal fractions.
pub earlier_tells : (t : Bool) (a b x y : Fraction) → a ≡ x → b ≡ y → Decides t (IsEarlier a b) → Decides t (IsEarlier x y)
earlier_tells t a b x y e f h = subst (λ z. Decides t (IsEarlier z y)) e (subst (λ z. Decides t (IsEarlier a z)) f h)
