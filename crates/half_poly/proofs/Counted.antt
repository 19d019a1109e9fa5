-- The names after one half-edge more.
use Rattle.std.proofs.Common.{◌≡◌, ℕ, ◌+◌, ◌<◌, ◌≤◌, List, length, length-set, get_or, Option, Some, None, sym, ap, subst, ◌∙◌, arith, inl, inr, ⊎_elim}
use Rattle.std.proofs.Math.ListN.{set}
use Rattle.std.proofs.lemmas.Bool.{cases_eq}
use Rattle.std.proofs.lemmas.List.{get_or-set_same, get_or-set_other}
use Rattle.half_poly.specs.declared.links.HalfEdge.{HalfEdge}
use Rattle.half_poly.specs.declared.names.Name.{Name}
use Rattle.half_poly.specs.Names.{no_name, AreLeast, with_number, MeetsBelow, NamesBelow}
use Rattle.half_poly.proofs.Making.{one_value, same_value}
use Rattle.half_poly.proofs.Least.{OneMore, least_as, least_none}
use Rattle.half_poly.proofs.Cornering.{least_with}

module _ (E : ℕ → Option HalfEdge) (numbers : List ℕ) (count : ℕ) (names : List Name) (n : ℕ) (b : NamesBelow E numbers count names n) where
  abbrev Meets : ℕ → ℕ → ℕ → Type 0
  Meets k x j = MeetsBelow E numbers k x j

  further : (x j : ℕ) → Meets n x j → Meets (n + 1) x j
  further x j m = record { e = m.e; h = m.h; below = let l = m.below in omega arith; there = m.there; from = m.from; face = m.face }

  back_unless : (x j : ℕ) → ((h : HalfEdge) → E n ≡ Some h → h.origin.0 ≡ x → ⊥) → Meets (n + 1) x j → Meets n x j
  back_unless x j none m = record {
    e = m.e;
    h = m.h;
    below = ⊎_elim (λ (q : m.e ≡ n). absurd (none m.h (ap E (sym q) ∙ m.there) m.from)) (λ (d : ¬ (m.e ≡ n)). let l = m.below in omega arith) (cases_eq m.e n);
    there = m.there;
    from = m.from;
    face = m.face;
  }

  pub names_skip : E n ≡ None → NamesBelow E numbers count names (n + 1)
  names_skip q x l = least_as (further x) (λ j m. back_unless x j (λ h i f. one_value i q) m) (b x l)

  pub names_past : (h : HalfEdge) → E n ≡ Some h → length names ≤ h.origin.0 → NamesBelow E numbers count names (n + 1)
  names_past h q w x l = least_as (further x) (λ j m. back_unless x j (λ k i f. let o = ap (λ (y : HalfEdge). y.origin.0) (same_value q i) in omega arith) m) (b x l)

  pub names_put : (h : HalfEdge) (after : List Name) (vertex : ℕ) (name : Name) → E n ≡ Some h → vertex ≡ h.origin.0 → vertex < length names → get_or numbers h.face.0 0 < count →
      name ≡ with_number (get_or names vertex no_name) (get_or numbers h.face.0 0) → after ≡ set names vertex name → NamesBelow E numbers count after (n + 1)
  names_put h after vertex name q v w f m e x l = ⊎_elim
      (λ (o : x ≡ vertex). subst (λ (y : Name). AreLeast (Meets (n + 1) x) count y) (sym (read o)) (least_as (to o) (from o) (subst (λ (y : Name). AreLeast (OneMore (Meets n x) number) count y) (sym m)
      (least_with (Meets n x) count (get_or names vertex no_name).first (get_or names vertex no_name).second (get_or names vertex no_name).third number f (subst (λ k. AreLeast (Meets n x) count (get_or names k no_name)) o (b x (old l)))))))
      (λ (d : ¬ (x ≡ vertex)). subst (λ (y : Name). AreLeast (Meets (n + 1) x) count y) (sym (ap (λ t. get_or t x no_name) e ∙ get_or-set_other names vertex x name no_name d))
      (least_as (further x) (λ j k. back_unless x j (λ g i p. d (sym p ∙ ap (λ (y : HalfEdge). y.origin.0) (same_value i q) ∙ sym v)) k) (b x (old l))))
      (cases_eq x vertex)
    where
      number : ℕ
      number = get_or numbers h.face.0 0

      old : x < length after → x < length names
      old i = subst (λ k. x < k) (ap length e ∙ length-set names vertex name) i

      read : x ≡ vertex → get_or after x no_name ≡ name
      read o = ap (λ t. get_or t x no_name) e ∙ ap (λ k. get_or (set names vertex name) k no_name) o ∙ get_or-set_same names vertex name no_name w

      to : x ≡ vertex → (j : ℕ) → OneMore (Meets n x) number j → Meets (n + 1) x j
      to o j (inl i) = further x j i
      to o j (inr i) = record { e = n; h = h; below = omega arith; there = q; from = sym v ∙ sym o; face = sym i }

      from : x ≡ vertex → (j : ℕ) → Meets (n + 1) x j → OneMore (Meets n x) number j
      from o j i = ⊎_elim
          (λ (s : i.e ≡ n). inr (sym i.face ∙ ap (λ (y : HalfEdge). get_or numbers y.face.0 0) (same_value (sym (ap E s) ∙ i.there) q)))
          (λ (s : ¬ (i.e ≡ n)). inl (record { e = i.e; h = i.h; below = let k = i.below in omega arith; there = i.there; from = i.from; face = i.face }))
          (cases_eq i.e n)

pub names_none : (E : ℕ → Option HalfEdge) (numbers : List ℕ) (count : ℕ) (names : List Name) → ((x : ℕ) → x < length names → get_or names x no_name ≡ record { first = count; second = count; third = count }) → NamesBelow E numbers count names 0
names_none E numbers count names all x l = subst (λ (y : Name). AreLeast (MeetsBelow E numbers 0 x) count y) (sym (all x l)) (least_none (MeetsBelow E numbers 0 x) count (λ j m. let b = m.below in omega arith))
