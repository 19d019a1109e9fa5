-- How many vertices a brush may have at most: one for each three of its faces.
use Rattle.std.proofs.Common.{◌≡◌, ℕ, zero, suc, ◌+◌, ◌*◌, ◌-◌, ◌<◌, ◌≤◌, ◌⊎◌, inl, inr, ⊎_elim, List, [], ◌∷◌, length, Some, sym, ap, ◌∙◌, refl, subst, arith, ℤ, pos, neg_ℤ}
use Rattle.std.specs.List.{slice_get}
use Rattle.std.proofs.lemmas.Int.{ints}
use Rattle.std.proofs.lemmas.Option.{slice_get_within}
use Rattle.algebra.specs.Members.{here, Every}
use Rattle.algebra.specs.Space.{Homogeneous, HalfSpace, det}
use Rattle.algebra.proofs.Identities.{det-swap_12, det-swap_23, det-equal_12, det-equal_23}
use Rattle.solid_laws.specs.Names.{Triple, Earlier, MeetAt, IsName, NamedBefore, NamesRise, no_points, one_more_point, AreVertices}
use Rattle.solid_laws.proofs.Name.{same_name, name}
use Rattle.solid_laws.proofs.Triples.{triple, same_face}

-- ---- the three numbers of a name rise
negated : {a b : ℤ} → b ≡ neg_ℤ a → ¬ (a ≡ pos 0) → ¬ (b ≡ pos 0)
negated {a} {b} e n z = n (omega (arith, ints))

swap_first : (F : List HalfSpace) (a b c : ℕ) (p : Homogeneous) → MeetAt F (triple a b c) p → MeetAt F (triple b a c) p
swap_first F a b c p m = record {
  f = m.g;
  g = m.f;
  h = m.h;
  first = m.second;
  second = m.first;
  third = m.third;
  on_f = m.on_g;
  on_g = m.on_f;
  on_h = m.on_h;
  independent = negated (det-swap_12 m.f.normal m.g.normal m.h.normal) m.independent;
}

swap_last : (F : List HalfSpace) (a b c : ℕ) (p : Homogeneous) → MeetAt F (triple a b c) p → MeetAt F (triple a c b) p
swap_last F a b c p m = record {
  f = m.f;
  g = m.h;
  h = m.g;
  first = m.first;
  second = m.third;
  third = m.second;
  on_f = m.on_f;
  on_g = m.on_h;
  on_h = m.on_g;
  independent = negated (det-swap_23 m.f.normal m.g.normal m.h.normal) m.independent;
}

at_same : (F : List HalfSpace) (a b : ℕ) (f g : HalfSpace) → slice_get F a ≡ Some f → slice_get F b ≡ Some g → a ≡ b → f ≡ g
at_same F a b f g d e i = same_face (ap (λ (n : ℕ). slice_get F n) (sym i) ∙ d) e

first_differs : (F : List HalfSpace) (a b c : ℕ) (p : Homogeneous) → MeetAt F (triple a b c) p → ¬ (a ≡ b)
first_differs F a b c p m e = m.independent (ap (λ (f : HalfSpace). det f.normal m.g.normal m.h.normal) (at_same F a b m.f m.g m.first m.second e) ∙ det-equal_12 m.g.normal m.h.normal)

last_differs : (F : List HalfSpace) (a b c : ℕ) (p : Homogeneous) → MeetAt F (triple a b c) p → ¬ (b ≡ c)
last_differs F a b c p m e = m.independent (ap (λ (g : HalfSpace). det m.f.normal g.normal m.h.normal) (at_same F b c m.g m.h m.second m.third e) ∙ det-equal_23 m.f.normal m.h.normal)

-- a triple of faces of a list that rises
record Rises (F : List HalfSpace) (t : Triple) : Type 0 where
  low : t.first < t.second
  high : t.second < t.third
  within : t.third < length F

below : (a b : ℕ) → ¬ (a ≡ b) → ¬ (b < a) → a < b
below a b n o = ⊎_elim (λ l. l) (λ r. ⊎_elim (λ e. absurd (n e)) (λ l. absurd (o l)) r) (compare a b)
  where
    compare : (a b : ℕ) → (a < b) ⊎ ((a ≡ b) ⊎ (b < a))
    compare a b = grind arith

rises : (F : List HalfSpace) (p : Homogeneous) (t : Triple) → IsName F p t → Rises F t
rises F p t n = record {
  low = below t.first t.second (first_differs F t.first t.second t.third p n.meet) (λ l. n.least (triple t.second t.first t.third) (swap_first F t.first t.second t.third p n.meet) (inl l));
  high = below t.second t.third (last_differs F t.first t.second t.third p n.meet) (λ l. n.least (triple t.first t.third t.second) (swap_last F t.first t.second t.third p n.meet) (inr (refl, inl l)));
  within = slice_get_within F t.third n.meet.h n.meet.third;
}

-- ---- the rank of a triple of rising numbers below 128
-- how many pairs of rising numbers below 128 begin below a
abbrev pairs : ℕ → ℕ
pairs zero = 0
pairs (suc a) = pairs a + (127 - a)

pairs_rise : (a k : ℕ) → pairs a ≤ pairs (a + k)
pairs_rise a zero = subst (λ n. pairs a ≤ pairs n) (none a) (omega arith)
  where
    none : (a : ℕ) → a ≡ a + 0
    none a = omega arith
pairs_rise a (suc k) = let h = pairs_rise a k in subst (λ n. pairs a ≤ pairs n) (more a k) (omega arith)
  where
    more : (a k : ℕ) → suc (a + k) ≡ a + suc k
    more a k = omega arith

pairs_from : (a b : ℕ) → a < b → pairs a + (127 - a) ≤ pairs b
pairs_from a b l = subst (λ n. pairs (suc a) ≤ pairs n) (rest a b l) (pairs_rise (suc a) (b - suc a))
  where
    rest : (a b : ℕ) → a < b → suc a + (b - suc a) ≡ b
    rest a b l = omega arith

abbrev rank : Triple → ℕ
rank t = (pairs t.first + (t.second - suc t.first)) * 128 + t.third

rank_rises : (s t : Triple) → s.first < s.second → s.second < s.third → s.third < 128 → t.first < t.second → Earlier s t → rank s < rank t
rank_rises s t a b c d (inl l) = let h = pairs_from s.first t.first l in omega arith
rank_rises s t a b c d (inr (e, inl l)) = let h = ap pairs e in omega arith
rank_rises s t a b c d (inr (e, inr (f, l))) = let h = ap pairs e in omega arith

rank_low : (t : Triple) → t.first < t.second → t.second < t.third → t.third < 128 → rank t < 1040384
rank_low t a b c = let h = pairs_from t.first 127 (omega arith) in omega (arith, all_pairs)
  where
    all_pairs : pairs 127 ≡ 8128
    all_pairs = refl

-- ---- the vertices
record Ranked (F : List HalfSpace) (k : ℕ) (v : Homogeneous) : Type 0 where
  pub name : Triple
  pub named : IsName F v name
  pub high : k ≤ rank name

ranked_from : (F : List HalfSpace) (V : List Homogeneous) → length F ≤ 128 → NamesRise F V → (k : ℕ) → Every (Ranked F k) V → k ≤ 1040384 → length V + k ≤ 1040384
ranked_from F [] l no_points k each m = omega arith
ranked_from F (v ∷ V) l (one_more_point before rise) k each m =
    let r = each v here in let a = rises F v r.name r.named in let top = r.high in
    let low = rank_low r.name a.low a.high (within a.within l) in
    let h = ranked_from F V l rise (suc (rank r.name)) (λ u i. later u (before u i)) (omega arith) in omega arith
  where
    within : {n k : ℕ} → n < k → k ≤ 128 → n < 128
    within {n} {k} i j = omega arith

    later : (u : Homogeneous) → NamedBefore F v u → Ranked F (suc (rank (each v here).name)) u
    later u b =
        let r = each v here in let a = rises F v r.name r.named in
        let e = same_name F v b.p_name r.name b.named_p r.named in
        record { name = b.q_name; named = b.named_q; high = rank_rises r.name b.q_name a.low a.high (within a.within l) (rises F u b.q_name b.named_q).low (subst (λ s. Earlier s b.q_name) e b.earlier) }

pub few_vertices : (F : List HalfSpace) (V : List Homogeneous) → length F ≤ 128 → AreVertices F V → length V ≤ 1040384
few_vertices F V l v =
    let h = ranked_from F V l v.order 0 (λ u i. let n = name F u (v.each u i).0 in record { name = n.name; named = n.named; high = omega arith }) (omega arith) in omega arith
