-- Offsets that have a count, and offsets that have none.
use Rattle.std.proofs.Common.{◌≡◌, ◌≢◌, ℕ, ◌<◌, [], ◌∷◌, inl, inr, true, false, cond, Bool, ◌&&◌, Some, None, refl, arith, sym, ap, ◌∙◌, nat_lt, ℤ, pos, ◌-ℤ◌, ◌*ℤ◌, unsigned_abs, int_div}
use Rattle.std.specs.Ordering.{int_eq}
use Rattle.std.proofs.lemmas.Int.{ints}
use Rattle.std.proofs.lemmas.Bool.{and_parts, and_from, true≢false}
use Rattle.std.proofs.lemmas.Bool.Decides.{Decides-int_eq, nat_tests}
use Rattle.algebra.proofs.Expr.{read}
use Rattle.algebra.proofs.Ring.{ring}
use Rattle.algebra.proofs.Orders.{eq_by, zero_product}
use Rattle.fixed_num.specs.Quotient.{IsQuotientBelow}
use Rattle.fixed_num.proofs.Quotients.{no_remainder, whole_quotient}
use Rattle.uv_lock.specs.Carry.{exact_quotient, scale_of}
use Rattle.uv_lock.specs.Units.{axis_unit}

cancel : (a b d : ℤ) → d ≢ pos 0 → a *ℤ d ≡ b *ℤ d → a ≡ b
cancel a b d ne e = elim (zero_product (a -ℤ b) d (eq_by (pos 1) e (ring (a ∷ b ∷ d ∷ []) (search read depth 20) tt))) [
  | inl z ↦ omega (arith, ints, z)
  | inr z ↦ absurd (ne z)
]

-- the quotient is there where some number is one
pub quotient_there : (n d k : ℤ) (limit : ℕ) → d ≢ pos 0 → k *ℤ d ≡ n → unsigned_abs k < limit → exact_quotient n d limit ≡ Some k
quotient_there n d k limit ne e l =
    let w = whole_quotient n d (no_remainder n d k e) in
    let q : int_div n d ≡ k = cancel (int_div n d) k d ne (w ∙ sym e) in
    ap (λ b. cond b (Some (int_div n d)) None)
    (and_from (int_eq (int_div n d *ℤ d) n) _ ((Decides-int_eq (int_div n d *ℤ d) n).1 w) (ap (λ k. nat_lt (unsigned_abs k) limit) q ∙ is_below (unsigned_abs k) limit l))
    ∙ ap Some q
  where
    is_below : (a b : ℕ) → a < b → nat_lt a b ≡ true
    is_below a b h = grind (arith, nat_tests)

-- and isn't where none is
pub quotient_lost : (n d limit : ℤ) (size : ℕ) → unsigned_abs limit ≡ size → ((k : ℤ) → ¬ IsQuotientBelow n d limit k) → exact_quotient n d size ≡ None
quotient_lost n d limit size same none = by (int_eq (int_div n d *ℤ d) n && nat_lt (unsigned_abs (int_div n d)) size) refl
  where
    below : (a b c : ℕ) → nat_lt a b ≡ true → c ≡ b → a < c
    below a b c h e = grind (arith, nat_tests)

    by : (b : Bool) → (int_eq (int_div n d *ℤ d) n && nat_lt (unsigned_abs (int_div n d)) size) ≡ b → cond b (Some (int_div n d)) None ≡ None
    by true f =
        let p = and_parts (int_eq (int_div n d *ℤ d) n) _ f in
        absurd (none (int_div n d) ((Decides-int_eq (int_div n d *ℤ d) n).0 p.0, below (unsigned_abs (int_div n d)) size (unsigned_abs limit) p.1 same))
    by false f = refl

-- the same of numbers that are known to be these
pub found : (n d limit : ℤ) (size : ℕ) (k : ℤ) {n' d' : ℤ} → n' ≡ n → d' ≡ d → unsigned_abs limit ≡ size → d ≢ pos 0 → IsQuotientBelow n' d' limit k → exact_quotient n d size ≡ Some k
found n d limit size k e f same ne h = quotient_there n d k size ne (ap (λ t. k *ℤ t) (sym f) ∙ h.0 ∙ e) (let l = h.1 in omega arith)

pub lost : (n d limit : ℤ) (size : ℕ) {n' d' : ℤ} → n' ≡ n → d' ≡ d → unsigned_abs limit ≡ size → ((k : ℤ) → ¬ IsQuotientBelow n' d' limit k) → exact_quotient n d size ≡ None
lost n d limit size e f same none = quotient_lost n d limit size same (λ k h. none k (ap (λ t. k *ℤ t) f ∙ h.0 ∙ sym e, h.1))

-- a scale is never 0
pub scale_not_zero : (s : ℤ) → scale_of s ≢ pos 0
scale_not_zero s = by (int_eq s (pos 0)) refl
  where
    by : (b : Bool) → int_eq s (pos 0) ≡ b → cond b (pos axis_unit) s ≢ pos 0
    by true e f = absurd (true≢false (ap (λ z. int_eq z (pos axis_unit)) f))
    by false e f = absurd (true≢false (sym ((Decides-int_eq s (pos 0)).1 f) ∙ e))
