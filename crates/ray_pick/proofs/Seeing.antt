-- The side of a ray's point as the machine has it, and what its tests tell.
use Rattle.std.proofs.Common.{◌≡◌, ◌≢◌, ℕ, ◌+◌, ◌*◌, ◌<◌, ◌≤◌, ◌^◌, true, false, ℤ, pos, ◌*ℤ◌, ◌-ℤ◌, ◌<ℤ◌, ◌≤ℤ◌, List, unsigned_abs, to_z, of_z, sym, subst, ap, ◌∙◌, arith}
use Rattle.std.specs.Int.{w128}
use Rattle.std.specs.Prelude.{int_lt}
use Rattle.std.proofs.lemmas.Int.{ints}
use Rattle.algebra.specs.Members.{Every}
use Rattle.algebra.specs.Space.{Vector, HalfSpace, Homogeneous, side}
use Rattle.algebra.proofs.Orders.{by_sign}
use Rattle.trim_laws.specs.Solid.{IsIn, IsInside}
use Rattle.exact_geom.proofs.Sizes.{size-mul, size-sub}
use Rattle.exact_geom.proofs.Exactly.{call}
use Rattle.ray_pick.specs.declared.passing.Passing.{Passing}
use Rattle.ray_pick.specs.Rays.{Fraction, point_at}
use Rattle.ray_pick.specs.Passings.{Passes, IsSmall}
use Rattle.ray_pick.proofs.Entering.{side_passes}
use Rattle.ray_pick.proofs.Sizes.{small}

module _ (f : HalfSpace) (a b : Vector) (p : Passing) (passes : Passes f a b p) (p_small : IsSmall p) (t : Fraction) (num den r : ℤ)
    (num_is : num ≡ t.num) (den_is : den ≡ t.den) (num_size : unsigned_abs t.num < 2 ^ 42) (den_size : unsigned_abs t.den < 2 ^ 42)
    (is : r ≡ to_z w128 (of_z w128 den) *ℤ p.start -ℤ to_z w128 (of_z w128 num) *ℤ p.fall) where
  plain : r ≡ t.den *ℤ p.start -ℤ t.num *ℤ p.fall
  plain =
      let n = ap (λ z. to_z w128 (of_z w128 z)) num_is ∙ (small t.num num_size).is in
      let d = ap (λ z. to_z w128 (of_z w128 z)) den_is ∙ (small t.den den_size).is in
      is ∙ (λ i. d i *ℤ p.start -ℤ n i *ℤ p.fall)

  pub value : r ≡ side f (point_at a b t)
  value = plain ∙ sym (side_passes f a b p passes t)

  within : unsigned_abs (t.den *ℤ p.start -ℤ t.num *ℤ p.fall) ≤ 2 ^ 42 * 2 ^ 42 + 2 ^ 42 * 2 ^ 42
  within =
      let s = p_small.start in
      let l = p_small.fall in
      size-sub (t.den *ℤ p.start) (t.num *ℤ p.fall) (2 ^ 42 * 2 ^ 42) (2 ^ 42 * 2 ^ 42)
      (size-mul t.den p.start (2 ^ 42) (2 ^ 42) (omega arith) (omega arith)) (size-mul t.num p.fall (2 ^ 42) (2 ^ 42) (omega arith) (omega arith))

  pub seen : to_z w128 (of_z w128 r) ≡ side f (point_at a b t)
  seen = (call w128 r (t.den *ℤ p.start -ℤ t.num *ℤ p.fall) plain within tt).is ∙ sym (side_passes f a b p passes t)

-- What the tests on it tell.
pub in_front : (m z : ℤ) → m ≡ z → int_lt (pos 0) m ≡ true → z ≤ℤ pos 0 → ⊥
in_front m z e t h = let k : int_lt (pos 0) z ≡ true = ap (λ x. int_lt (pos 0) x) (sym e) ∙ t in omega (arith, ints)

pub not_front : (m z : ℤ) → m ≡ z → int_lt (pos 0) m ≡ false → z ≤ℤ pos 0
not_front m z e t = let k : int_lt (pos 0) z ≡ false = ap (λ x. int_lt (pos 0) x) (sym e) ∙ t in omega (arith, ints)

-- What the test on zero tells.
pub on_plane : (r z : ℤ) → to_z w128 (of_z w128 r) ≡ z → of_z w128 r ≡ 0 → z ≡ pos 0
on_plane r z e t = sym e ∙ ap (to_z w128) t

pub off_plane : (r z : ℤ) → r ≡ z → (of_z w128 r ≡ 0 → ⊥) → z ≡ pos 0 → ⊥
off_plane r z e h k = h (ap (of_z w128) (e ∙ k))

-- A point that is in front of no plane and on none is behind all of them.
pub inside_of : (F : List HalfSpace) (p : Homogeneous) → IsIn F p → Every (λ f. side f p ≢ pos 0) F → IsInside F p
inside_of F p k off = record { weight = k.weight; all = λ f i. behind (side f p) (k.all f i) (off f i) }
  where
    behind : (z : ℤ) → z ≤ℤ pos 0 → z ≢ pos 0 → z <ℤ pos 0
    behind z h n = by_sign z (λ l. l) (λ e. absurd (n e)) (λ g. absurd (omega (arith, ints)))
