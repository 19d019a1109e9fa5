-- The fraction at which a ray crosses a plane ahead.
use Rattle.std.proofs.Common.{◌≡◌, ◌≢◌, Bool, true, false, not, ◌&&◌, ◌||◌, ℤ, pos, ◌*ℤ◌, ◌-ℤ◌, ◌<ℤ◌, ◌≤ℤ◌, arith, refl, sym, subst, ◌∙◌, true≢false, inl, inr, neg_ℤ, negsuc, [], ◌∷◌}
use Rattle.std.specs.Prelude.{int_lt}
use Rattle.std.specs.Ordering.{int_eq}
use Rattle.std.proofs.lemmas.Int.{ints}
use Rattle.std.proofs.lemmas.Bool.Decides.{Decides-int_eq}
use Rattle.algebra.specs.Space.{side}
use Rattle.algebra.proofs.Expr.{read}
use Rattle.algebra.proofs.Ring.{ring}
use Rattle.algebra.proofs.Orders.{by_sign, positive-mul, negative-mul, positive_of_product, negative_of_product, nonneg_of_positive, zero-mul, zero_product, eq_by, eq_by_2, positive-neg}
use Rattle.std.proofs.Math.IntN.{*ℤ_comm}
use Rattle.map_model.specs.Carry.{Fraction, fraction}
use Rattle.map_model.proofs.Members.{decides_less}
use Rattle.lock_laws.proofs.Numbers.{lowest_terms}
use Rattle.ray_laws.proofs.LowestTerms.{IsPlain, same_fraction}

-- The test on a plane that has the side s at the ray's first point, and s - d at the second.
abbrev is_ahead : (s d : ℤ) → Bool
is_ahead s d = not (int_eq d (pos 0)) && (int_eq s (pos 0) || (int_lt (pos 0) s && int_lt (pos 0) d || int_lt s (pos 0) && int_lt d (pos 0)))

-- What it tells.
pub data Ahead (s d : ℤ) : Type 0 where
  begins_there : d ≢ pos 0 → s ≡ pos 0 → Ahead s d
  inward : pos 0 <ℤ s → pos 0 <ℤ d → Ahead s d
  outward : s <ℤ pos 0 → d <ℤ pos 0 → Ahead s d

from_tests : (s d : ℤ) (e z u v w x : Bool) → int_eq d (pos 0) ≡ e → int_eq s (pos 0) ≡ z → int_lt (pos 0) s ≡ u → int_lt (pos 0) d ≡ v → int_lt s (pos 0) ≡ w → int_lt d (pos 0) ≡ x →
    (not e && (z || (u && v || w && x))) ≡ true → Ahead s d
from_tests s d true z u v w x he hz hu hv hw hx t = absurd (true≢false (sym t))
from_tests s d false true u v w x he hz hu hv hw hx t =
    begins_there (λ k. true≢false (sym ((Decides-int_eq d (pos 0)).1 k) ∙ he)) ((Decides-int_eq s (pos 0)).0 hz)
from_tests s d false false true true w x he hz hu hv hw hx t = inward ((decides_less (pos 0) s).0 hu) ((decides_less (pos 0) d).0 hv)
from_tests s d false false false v true true he hz hu hv hw hx t = outward ((decides_less s (pos 0)).0 hw) ((decides_less d (pos 0)).0 hx)
from_tests s d false false true false true true he hz hu hv hw hx t = outward ((decides_less s (pos 0)).0 hw) ((decides_less d (pos 0)).0 hx)
from_tests s d false false true false true false he hz hu hv hw hx t = absurd (true≢false (sym t))
from_tests s d false false true false false x he hz hu hv hw hx t = absurd (true≢false (sym t))
from_tests s d false false false v true false he hz hu hv hw hx t = absurd (true≢false (sym t))
from_tests s d false false false v false x he hz hu hv hw hx t = absurd (true≢false (sym t))

pub tells_ahead : (s d : ℤ) → is_ahead s d ≡ true → Ahead s d
tells_ahead s d t = from_tests s d (int_eq d (pos 0)) (int_eq s (pos 0)) (int_lt (pos 0) s) (int_lt (pos 0) d) (int_lt s (pos 0)) (int_lt d (pos 0)) refl refl refl refl refl refl t

not_equal : (x : ℤ) → x ≢ pos 0 → int_eq x (pos 0) ≡ false
not_equal x ne = by (int_eq x (pos 0)) refl
  where
    by : (t : Bool) → int_eq x (pos 0) ≡ t → t ≡ false
    by true e = absurd (ne ((Decides-int_eq x (pos 0)).0 e))
    by false e = refl

above_is_some : (x : ℤ) → pos 0 <ℤ x → x ≢ pos 0
above_is_some x h z = omega (arith, ints)

below_is_some : (x : ℤ) → x <ℤ pos 0 → x ≢ pos 0
below_is_some x h z = omega (arith, ints)

below_not_above : (x : ℤ) → x <ℤ pos 0 → int_lt (pos 0) x ≡ false
below_not_above x h = by (int_lt (pos 0) x) refl
  where
    by : (t : Bool) → int_lt (pos 0) x ≡ t → t ≡ false
    by true e = let l = (decides_less (pos 0) x).0 e in absurd (omega (arith, ints))
    by false e = refl

both_above : (s d : ℤ) → pos 0 <ℤ s → pos 0 <ℤ d → is_ahead s d ≡ true
both_above s d h k =
    λ i. not (not_equal d (above_is_some d k) i) && (not_equal s (above_is_some s h) i || ((decides_less (pos 0) s).1 h i && (decides_less (pos 0) d).1 k i || int_lt s (pos 0) && int_lt d (pos 0)))

both_below : (s d : ℤ) → s <ℤ pos 0 → d <ℤ pos 0 → is_ahead s d ≡ true
both_below s d h k =
    λ i. not (not_equal d (below_is_some d k) i) && (not_equal s (below_is_some s h) i || (below_not_above s h i && int_lt (pos 0) d || (decides_less s (pos 0)).1 h i && (decides_less d (pos 0)).1 k i))

-- The fraction s / d of a plane ahead.
above : (x s d y : ℤ) → x *ℤ d ≡ s *ℤ y → pos 0 <ℤ y → pos 0 <ℤ s → pos 0 <ℤ d → pos 0 ≤ℤ x
above x s d y e h k l = nonneg_of_positive (positive_of_product d l (subst (λ z. pos 0 <ℤ z) (sym e ∙ *ℤ_comm x d) (positive-mul k h)))

minus_both : (x s d y : ℤ) → x *ℤ d ≡ s *ℤ y → x *ℤ neg_ℤ d ≡ neg_ℤ s *ℤ y
minus_both x s d y e = eq_by (negsuc 0) e (ring (x ∷ s ∷ d ∷ y ∷ []) (search read depth 20) tt)

nonneg_by : (x s d y : ℤ) → x *ℤ d ≡ s *ℤ y → pos 0 <ℤ y → Ahead s d → pos 0 ≤ℤ x
nonneg_by x s d y e h (begins_there some z) = elim (zero_product x d (e ∙ *ℤ_comm s y ∙ zero-mul y z)) [
  | inl is ↦ subst (λ w. pos 0 ≤ℤ w) (sym is) (omega (arith, ints))
  | inr is ↦ absurd (some is)
]
nonneg_by x s d y e h (inward k l) = above x s d y e h k l
nonneg_by x s d y e h (outward k l) = above x (neg_ℤ s) (neg_ℤ d) y (minus_both x s d y e) h (positive-neg k) (positive-neg l)

some_fall : (s d : ℤ) → Ahead s d → d ≢ pos 0
some_fall s d (begins_there some z) = some
some_fall s d (inward k l) = above_is_some d l
some_fall s d (outward k l) = below_is_some d l

not_zero : (x : ℤ) → pos 1 ≤ℤ x → pos 0 <ℤ x
not_zero x h = omega (arith, ints)

pub is_plain : (s d : ℤ) → Ahead s d → IsPlain (fraction s d)
is_plain s d h =
    let l = lowest_terms s d (some_fall s d h) in
    record { nonneg = nonneg_by (fraction s d).num s d (fraction s d).den l.value (not_zero (fraction s d).den l.positive) h; positive = not_zero (fraction s d).den l.positive; reduced = l.reduced }

-- Where a plane has the side 0 at p / q, above 0, and not all along the ray, this is its fraction.
module _ (s d : ℤ) (t : Fraction) (plain : IsPlain t) (some : pos 0 <ℤ t.num) (falls : d ≢ pos 0) (on : t.den *ℤ s -ℤ t.num *ℤ d ≡ pos 0) where
  equal : t.den *ℤ s ≡ t.num *ℤ d
  equal = eq_by (pos 1) on (ring (s ∷ d ∷ t.num ∷ t.den ∷ []) (search read depth 20) tt)

  pub crossed_ahead : is_ahead s d ≡ true
  crossed_ahead =
      by_sign d
      (λ l. both_below s d (negative_of_product t.den plain.positive (subst (λ z. z <ℤ pos 0) (sym equal) (negative-mul t.num some l))) l)
      (λ z. absurd (falls z))
      (λ l. both_above s d (positive_of_product t.den plain.positive (subst (λ z. pos 0 <ℤ z) (sym equal) (positive-mul some l))) l)

  pub crossed_at : t ≡ fraction s d
  crossed_at =
      let f = fraction s d in
      let l = lowest_terms s d falls in
      same_fraction t f plain (is_plain s d (tells_ahead s d crossed_ahead))
      (by_fall d t.num f.num t.den f.den s falls equal l.value)
    where
      crossed : (d p x q y s : ℤ) → q *ℤ s ≡ p *ℤ d → x *ℤ d ≡ s *ℤ y → d *ℤ (p *ℤ y -ℤ x *ℤ q) ≡ pos 0
      crossed d p x q y s e h = eq_by_2 (neg_ℤ y) (neg_ℤ q) e h (ring (d ∷ p ∷ x ∷ q ∷ y ∷ s ∷ []) (search read depth 40) tt)

      no_gap : (x y : ℤ) → x -ℤ y ≡ pos 0 → x ≡ y
      no_gap x y e = omega (arith, ints)

      by_fall : (d p x q y s : ℤ) → d ≢ pos 0 → q *ℤ s ≡ p *ℤ d → x *ℤ d ≡ s *ℤ y → p *ℤ y ≡ x *ℤ q
      by_fall d p x q y s some e h = elim (zero_product d (p *ℤ y -ℤ x *ℤ q) (crossed d p x q y s e h)) [
        | inl z ↦ absurd (some z)
        | inr z ↦ no_gap (p *ℤ y) (x *ℤ q) z
      ]
