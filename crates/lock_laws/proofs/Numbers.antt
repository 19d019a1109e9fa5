-- Fractions and quotients that the definitions compute.
use Rattle.std.proofs.Common.{◌≡◌, ◌≢◌, ◌∙◌, ◌↔◌, [], ◌∷◌, ℕ, ◌<◌, Bool, true, false, cond, ◌&&◌, Some, None, refl, arith, sym, ap, subst, ℤ, pos, negsuc, neg_ℤ, ◌*ℤ◌, ◌<ℤ◌, unsigned_abs}
use Rattle.std.specs.Prelude.{int_div, nat_lt}
use Rattle.std.specs.Ordering.{int_eq}
use Rattle.std.proofs.lemmas.Bool.{and_parts}
use Rattle.std.proofs.lemmas.Bool.Decides.{Decides-int_eq, nat_tests}
use Rattle.std.proofs.lemmas.Int.{ints}
use Rattle.algebra.proofs.Expr.{read}
use Rattle.algebra.proofs.Ring.{ring}
use Rattle.algebra.proofs.Orders.{eq_by, by_sign}
use Rattle.exact_geom.proofs.Division.{exact}
use Rattle.uv_lock.specs.Carry.{exact_quotient}
use Rattle.uv_lock.specs.Fractions.{Fraction, fraction, gcd}
use Rattle.uv_lock.proofs.Divisors.{gcd_is, lowest_is, positive_quotient, quotients_reduced, turned_signs}
use Rattle.uv_lock.proofs.Offsets.{quotient_there}
use Rattle.uv_lock.proofs.Options.{no_some, of_some}
use Rattle.lock_laws.specs.Laws.{IsLowest}

-- ---- fractions
crossed : (n d g a b : ℤ) → n ≡ g *ℤ a → d ≡ g *ℤ b → a *ℤ d ≡ n *ℤ b
crossed n d g a b e f = ap (λ t. a *ℤ t) f ∙ regroup a b g ∙ ap (λ t. t *ℤ b) (sym e)
  where
    regroup : (a b g : ℤ) → a *ℤ (g *ℤ b) ≡ g *ℤ a *ℤ b
    regroup a b g = ring (a ∷ b ∷ g ∷ []) (search read depth 20) tt

above : (n d : ℤ) → pos 0 <ℤ d → IsLowest n d (fraction n d)
above n d p =
    let g = gcd (unsigned_abs n) (unsigned_abs d) in
    let h = gcd_is (unsigned_abs n) (unsigned_abs d) in
    subst (IsLowest n d) (lowest_is n d g p h) (record {
      value = crossed n d (pos g) (int_div n (pos g)) (int_div d (pos g)) (exact n (pos g) h.0) (exact d (pos g) h.1);
      positive = positive_quotient n d g p h;
      reduced = quotients_reduced n d g p h;
    })

minus_both : (n d a b : ℤ) → a *ℤ neg_ℤ d ≡ neg_ℤ n *ℤ b → a *ℤ d ≡ n *ℤ b
minus_both n d a b e = eq_by (negsuc 0) e (ring (n ∷ d ∷ a ∷ b ∷ []) (search read depth 20) tt)

turned : (n d : ℤ) (f : Fraction) → IsLowest (neg_ℤ n) (neg_ℤ d) f → IsLowest n d f
turned n d f h = record { value = minus_both n d f.num f.den h.value; positive = h.positive; reduced = h.reduced }

minus_above : (d : ℤ) → d <ℤ pos 0 → pos 0 <ℤ neg_ℤ d
minus_above d h = omega (arith, ints)

pub lowest_terms : (n d : ℤ) → d ≢ pos 0 → IsLowest n d (fraction n d)
lowest_terms n d ne =
    by_sign d (λ l. subst (IsLowest n d) (turned_signs n d l) (turned n d (fraction (neg_ℤ n) (neg_ℤ d)) (above (neg_ℤ n) (neg_ℤ d) (minus_above d l))))
    (λ z. absurd (ne z)) (λ l. above n d l)

-- ---- quotients
below : (a b : ℕ) → nat_lt a b ≡ true → a < b
below a b h = grind (arith, nat_tests)

pub quotient_is : (n d k : ℤ) (limit : ℕ) → exact_quotient n d limit ≡ Some k → (k *ℤ d ≡ n) × (unsigned_abs k < limit)
quotient_is n d k limit e = by (int_eq (int_div n d *ℤ d) n && nat_lt (unsigned_abs (int_div n d)) limit) refl e
  where
    by : (b : Bool) → (int_eq (int_div n d *ℤ d) n && nat_lt (unsigned_abs (int_div n d)) limit) ≡ b → cond b (Some (int_div n d)) None ≡ Some k → (k *ℤ d ≡ n) × (unsigned_abs k < limit)
    by true f g =
        let p = and_parts (int_eq (int_div n d *ℤ d) n) _ f in
        subst (λ t. (t *ℤ d ≡ n) × (unsigned_abs t < limit)) (of_some g) ((Decides-int_eq (int_div n d *ℤ d) n).0 p.0, below (unsigned_abs (int_div n d)) limit p.1)
    by false f g = no_some g

pub quotient_found : (n d k : ℤ) (limit : ℕ) → d ≢ pos 0 → (exact_quotient n d limit ≡ Some k) ↔ ((k *ℤ d ≡ n) × (unsigned_abs k < limit))
quotient_found n d k limit ne = (λ e. quotient_is n d k limit e, λ h. quotient_there n d k limit ne h.0 h.1)
