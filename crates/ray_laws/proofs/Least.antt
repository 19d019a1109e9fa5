-- The least of some fractions.
use Rattle.std.proofs.Common.{◌≡◌, Bool, true, false, cond, List, [], ◌∷◌, ℤ, ◌*ℤ◌, ◌<ℤ◌, arith, refl, subst, ap, ◌∙◌, ◌⊎◌, inl, inr, Some, None}
use Rattle.std.specs.Prelude.{int_lt}
use Rattle.std.proofs.lemmas.Int.{ints}
use Rattle.algebra.specs.Members.{◌∈◌, here, there, Every}
use Rattle.map_model.specs.Carry.{Fraction}
use Rattle.map_model.specs.Rays.{least_from, least}
use Rattle.map_model.proofs.Members.{decides_less}

abbrev pub IsLess : Fraction → Fraction → Type 0
IsLess t u = (t.num *ℤ u.den) <ℤ (u.num *ℤ t.den)

-- It is t, or t is less.
abbrev pub IsOrAfter : Fraction → Fraction → Type 0
IsOrAfter t s = (s ≡ t) ⊎ IsLess t s

apart : (x y : ℤ) → x <ℤ y → y <ℤ x → ⊥
apart x y h k = omega (arith, ints)

itself : (x : ℤ) → x <ℤ x → ⊥
itself x h = omega (arith, ints)

pub not_less : (x y : ℤ) → (x <ℤ y → ⊥) → int_lt x y ≡ false
not_less x y ne = by (int_lt x y) refl
  where
    by : (t : Bool) → int_lt x y ≡ t → t ≡ false
    by true e = absurd (ne ((decides_less x y).0 e))
    by false e = refl

-- It isn't less than t.
stays : (t s : Fraction) → IsOrAfter t s → int_lt (s.num *ℤ t.den) (t.num *ℤ s.den) ≡ false
stays t s (inl e) = not_less (s.num *ℤ t.den) (t.num *ℤ s.den) (λ l. itself (t.num *ℤ t.den) (subst (λ u. (u.num *ℤ t.den) <ℤ (t.num *ℤ u.den)) e l))
stays t s (inr l) = not_less (s.num *ℤ t.den) (t.num *ℤ s.den) (λ k. apart (t.num *ℤ s.den) (s.num *ℤ t.den) l k)

least_here : (t : Fraction) (ts : List Fraction) → Every (IsOrAfter t) ts → least_from t ts ≡ t
least_here t [] h = refl
least_here t (s ∷ ts) h = ap (λ b. least_from (cond b s t) ts) (stays t s (h s here)) ∙ least_here t ts (λ u i. h u (there i))

chosen : (b : Bool) (t s u : Fraction) → IsOrAfter t s → IsOrAfter t u → IsOrAfter t (cond b s u)
chosen true t s u h k = h
chosen false t s u h k = k

least_later : (t u : Fraction) (ts : List Fraction) → t ∈ ts → IsOrAfter t u → Every (IsOrAfter t) ts → least_from u ts ≡ t
least_later t u [] i k h = elim i [ ]
least_later t u (s ∷ ts) here (inl e) h = ap (λ v. least_from v (t ∷ ts)) e ∙ least_here t (t ∷ ts) h
least_later t u (s ∷ ts) here (inr l) h = ap (λ b. least_from (cond b t u) ts) ((decides_less (t.num *ℤ u.den) (u.num *ℤ t.den)).1 l) ∙ least_here t ts (λ v i. h v (there i))
least_later t u (s ∷ ts) (there i) k h =
    least_later t (cond (int_lt (s.num *ℤ u.den) (u.num *ℤ s.den)) s u) ts i (chosen (int_lt (s.num *ℤ u.den) (u.num *ℤ s.den)) t s u (h s here) k) (λ v j. h v (there j))

pub least_is : (t : Fraction) (ts : List Fraction) → t ∈ ts → Every (IsOrAfter t) ts → least ts ≡ Some t
least_is t [] i h = elim i [ ]
least_is t (s ∷ ts) here h = ap Some (least_here t ts (λ v i. h v (there i)))
least_is t (s ∷ ts) (there i) h = ap Some (least_later t s ts i (h s here) (λ v j. h v (there j)))

pub least_none : (ts : List Fraction) → ((t : Fraction) → t ∈ ts → ⊥) → least ts ≡ None
least_none [] h = refl
least_none (t ∷ ts) h = absurd (h t here)
