-- Triples in lexicographic order, and the rising triple of the same faces.
use Rattle.std.proofs.Common.{◌≡◌, ◌⊎◌, inl, inr, ⊎_elim, ℕ, ◌<◌, ◌≤◌, List, Some, sym, ap, ◌∙◌, refl, subst, arith, ℤ, pos, neg_ℤ, ◌<ℤ◌}
use Rattle.std.specs.List.{slice_get}
use Rattle.std.proofs.lemmas.Int.{ints}
use Rattle.std.proofs.lemmas.Bool.{cases_lt}
use Rattle.algebra.specs.Space.{Homogeneous, HalfSpace, SamePoint, det, side}
use Rattle.algebra.proofs.Identities.{det-swap_12, det-swap_23, det-equal_12, det-equal_23}
use Rattle.algebra.proofs.Orders.{by_order}
use Rattle.algebra.proofs.Points.{same_of_three}
use Rattle.trim_laws.specs.Solid.{IsIn}
use Rattle.vertex_laws.specs.Vertex.{IsVertex}
use Rattle.solid_laws.specs.Names.{Triple, Earlier, MeetAt}
use Rattle.map_model.proofs.TriplesTried.{triple, IsRising}
use Rattle.map_model.proofs.Places.{member_of_place, place_of}

-- ---- the order
earlier_trans : (r s t : Triple) → Earlier r s → Earlier s t → Earlier r t
earlier_trans r s t h k = grind arith

-- ---- three faces that meet, in another order
negated : {a b : ℤ} → b ≡ neg_ℤ a → ¬ (a ≡ pos 0) → ¬ (b ≡ pos 0)
negated {a} {b} e n z = n (omega (arith, ints))

swap_first : (F : List HalfSpace) (a b c : ℕ) (p : Homogeneous) → MeetAt F (triple a b c) p → MeetAt F (triple b a c) p
swap_first F a b c p m = record {
  f = m.g;
  g = m.f;
  h = m.h;
  first = m.second;
  second = m.first;
  third = m.third;
  on_f = m.on_g;
  on_g = m.on_f;
  on_h = m.on_h;
  independent = negated (det-swap_12 m.f.normal m.g.normal m.h.normal) m.independent;
}

swap_last : (F : List HalfSpace) (a b c : ℕ) (p : Homogeneous) → MeetAt F (triple a b c) p → MeetAt F (triple a c b) p
swap_last F a b c p m = record {
  f = m.f;
  g = m.h;
  h = m.g;
  first = m.first;
  second = m.third;
  third = m.second;
  on_f = m.on_f;
  on_g = m.on_h;
  on_h = m.on_g;
  independent = negated (det-swap_23 m.f.normal m.g.normal m.h.normal) m.independent;
}

pub same_face : (F : List HalfSpace) (a b : ℕ) (f g : HalfSpace) → slice_get F a ≡ Some f → slice_get F b ≡ Some g → a ≡ b → f ≡ g
same_face F a b f g d e i = let k : slice_get F a ≡ slice_get F b = ap (λ (n : ℕ). slice_get F n) i in cc

first_differs : (F : List HalfSpace) (a b c : ℕ) (p : Homogeneous) → MeetAt F (triple a b c) p → ¬ (a ≡ b)
first_differs F a b c p m e = let i = same_face F a b m.f m.g m.first m.second e in
    m.independent (ap (λ (f : HalfSpace). det f.normal m.g.normal m.h.normal) i ∙ det-equal_12 m.g.normal m.h.normal)

last_differs : (F : List HalfSpace) (a b c : ℕ) (p : Homogeneous) → MeetAt F (triple a b c) p → ¬ (b ≡ c)
last_differs F a b c p m e = let i = same_face F b c m.g m.h m.second m.third e in
    m.independent (ap (λ (g : HalfSpace). det m.f.normal g.normal m.h.normal) i ∙ det-equal_23 m.f.normal m.h.normal)

-- ---- the rising triple of three faces that meet: none is earlier
pub record Sorted (F : List HalfSpace) (s : Triple) (p : Homogeneous) : Type 0 where
  pub to : Triple
  pub rising : IsRising to
  pub meet : MeetAt F to p
  pub no_later : (t : Triple) → Earlier s t → Earlier to t

-- the same for three numbers of which the first two rise, and for any three
from_pair : (F : List HalfSpace) (a b c : ℕ) (p : Homogeneous) → a < b → MeetAt F (triple a b c) p → Sorted F (triple a b c) p
from_pair F a b c p l m = ⊎_elim (λ k. record { to = triple a b c; rising = record { low = l; high = k }; meet = m; no_later = λ t e. e })
    (λ k. let w = swap_last F a b c p m in let n = last m k in ⊎_elim
    (λ i. record {
      to = triple a c b;
      rising = record { low = i; high = n };
      meet = w;
      no_later = λ t e. earlier_trans (triple a c b) (triple a b c) t (inr (refl, inl n)) e;
    })
    (λ i. let v = swap_first F a c b p w in let o = first v i in record {
      to = triple c a b;
      rising = record { low = o; high = l };
      meet = v;
      no_later = λ t e. earlier_trans (triple c a b) (triple a b c) t (inl o) e;
    })
    (cases_lt a c))
    (cases_lt b c)
  where
    last : MeetAt F (triple a b c) p → c ≤ b → c < b
    last m k = let d = last_differs F a b c p m in omega (arith, d)

    first : MeetAt F (triple c a b) p → c ≤ a → c < a
    first m k = let d = first_differs F c a b p m in omega (arith, d)

pub sorted : (F : List HalfSpace) (a b c : ℕ) (p : Homogeneous) → MeetAt F (triple a b c) p → Sorted F (triple a b c) p
sorted F a b c p m = ⊎_elim (λ l. from_pair F a b c p l m)
    (λ l. let w = swap_first F a b c p m in let d = first_differs F a b c p m in let k : b < a = omega (arith, d) in
    let r = from_pair F b a c p k w in record {
      to = r.to;
      rising = r.rising;
      meet = r.meet;
      no_later = λ t e. r.no_later t (earlier_trans (triple b a c) (triple a b c) t (inl k) e);
    })
    (cases_lt a b)

-- ---- what meets at one place
positive_either : {a : ℤ} → ¬ (a ≡ pos 0) → (pos 0 <ℤ a) ⊎ (pos 0 <ℤ neg_ℤ a)
positive_either {a} n = by_order (pos 0) a (λ l. inl l) (λ e. absurd (n (sym e))) (λ l. inr (omega (arith, ints)))

same_of_independent : (f g h : HalfSpace) (p q : Homogeneous) → ¬ (det f.normal g.normal h.normal ≡ pos 0) →
    side f p ≡ pos 0 → side g p ≡ pos 0 → side h p ≡ pos 0 → side f q ≡ pos 0 → side g q ≡ pos 0 → side h q ≡ pos 0 → SamePoint p q
same_of_independent f g h p q n a b c x y z = ⊎_elim (λ l. same_of_three f g h p q l a b c x y z)
    (λ l. same_of_three g f h p q (rw det-swap_12 l) b a c y x z) (positive_either n)

pub one_point : (F : List HalfSpace) (t : Triple) (p q : Homogeneous) → MeetAt F t p → MeetAt F t q → SamePoint p q
one_point F t p q m n =
    let i = same_face F t.first t.first n.f m.f n.first m.first refl in
    let j = same_face F t.second t.second n.g m.g n.second m.second refl in
    let k = same_face F t.third t.third n.h m.h n.third m.third refl in
    same_of_independent m.f m.g m.h p q m.independent m.on_f m.on_g m.on_h (on q i n.on_f) (on q j n.on_g) (on q k n.on_h)
  where
    on : {f g : HalfSpace} (q : Homogeneous) → f ≡ g → side f q ≡ pos 0 → side g q ≡ pos 0
    on q e z = subst (λ f. side f q ≡ pos 0) e z

pub vertex_of_meet : (F : List HalfSpace) (t : Triple) (p : Homogeneous) → IsIn F p → MeetAt F t p → IsVertex F p
vertex_of_meet F t p i m =
    let a = member_of_place F t.first m.f m.first in let b = member_of_place F t.second m.g m.second in let c = member_of_place F t.third m.h m.third in
    ⊎_elim
    (λ l. record {
      inside = i;
      f = m.f;
      g = m.g;
      h = m.h;
      f_in = a;
      g_in = b;
      h_in = c;
      on_f = m.on_f;
      on_g = m.on_g;
      on_h = m.on_h;
      independent = l;
    })
    (λ l. record {
      inside = i;
      f = m.g;
      g = m.f;
      h = m.h;
      f_in = b;
      g_in = a;
      h_in = c;
      on_f = m.on_g;
      on_g = m.on_f;
      on_h = m.on_h;
      independent = rw det-swap_12 l;
    })
    (positive_either m.independent)

pub record Met (F : List HalfSpace) (p : Homogeneous) : Type 0 where
  pub at : Triple
  pub rising : IsRising at
  pub meet : MeetAt F at p

positive_not : {a : ℤ} → pos 0 <ℤ a → ¬ (a ≡ pos 0)
positive_not {a} l e = absurd (omega (arith, ints))

-- some rising triple meets at each vertex
pub met : (F : List HalfSpace) (v : Homogeneous) → IsVertex F v → Met F v
met F v x =
    let a = place_of F x.f x.f_in in let b = place_of F x.g x.g_in in let c = place_of F x.h x.h_in in
    let r = sorted F a.index b.index c.index v (record {
      f = x.f;
      g = x.g;
      h = x.h;
      first = a.is;
      second = b.is;
      third = c.is;
      on_f = x.on_f;
      on_g = x.on_g;
      on_h = x.on_h;
      independent = positive_not x.independent;
    }) in record { at = r.to; rising = r.rising; meet = r.meet }
