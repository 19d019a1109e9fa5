-- What is found when one more triple is tried, and when the triples run out.
use Rattle.std.proofs.Common.{◌≡◌, ◌⊎◌, inl, inr, ⊎_elim, ℕ, ◌+◌, ◌*◌, ◌<◌, ◌≤◌, List, [], ◌∷◌, ◌++◌, length, map, get_or, refl, sym, ap, ◌∙◌, subst, arith, pos, ◌<ℤ◌, length-append}
use Rattle.std.specs.List.{slice_get}
use Rattle.std.proofs.lemmas.Int.{ints}
use Rattle.std.proofs.lemmas.Option.{slice_get_within}
use Rattle.algebra.specs.Members.{◌∈◌, here, there, Every}
use Rattle.algebra.specs.Space.{Homogeneous, HalfSpace, det}
use Rattle.algebra.proofs.Members.{each_of_none}
use Rattle.exact_geom.specs.Planes.{ThreePoints, half_space}
use Rattle.exact_geom.specs.Vertices.{IsReduced, IsVertexOf}
use Rattle.trim_laws.specs.Solid.{IsIn}
use Rattle.vertex_laws.specs.Vertex.{IsVertex}
use Rattle.solid_laws.specs.Names.{Triple, Earlier, MeetAt, IsName, NamedBefore, NamesRise, no_points, one_more_point, AreVertices}
use Rattle.map_model.proofs.TriplesTried.{triple, IsRising, NamedEarlier, FoundBefore}
use Rattle.map_model.proofs.Places.{each_of_push, member_push, member_last, place_mapped}
use Rattle.map_model.proofs.TripleNames.{same_face, sorted, one_point, vertex_of_meet, met}
use Rattle.exact_geom.proofs.Unique.{one_form}

-- ---- before the first triple
pub none_found : (F : List HalfSpace) → FoundBefore F (triple 0 0 0) []
none_found F = record {
  each = λ v m. elim m [ ];
  named = λ v m. elim m [ ];
  all = λ v s i r u m e. absurd (grind arith);
  order = no_points;
  few = omega arith;
}

-- ---- from one triple to the next that may meet
record IsWithin (n : ℕ) (s : Triple) : Type 0 where
  first : s.first < n
  second : s.second < n
  third : s.third < n

within : (F : List HalfSpace) (s : Triple) (v : Homogeneous) → MeetAt F s v → IsWithin (length F) s
within F s v m = record {
  first = slice_get_within F s.first m.f m.first;
  second = slice_get_within F s.second m.g m.second;
  third = slice_get_within F s.third m.h m.third;
}

moved : (F : List HalfSpace) (t u : Triple) (V : List Homogeneous) → FoundBefore F t V →
    ((s : Triple) → IsRising s → IsWithin (length F) s → Earlier s u → Earlier s t) → ((s : Triple) → Earlier s t → Earlier s u) →
    (t.first * 262 + t.second) * 262 + t.third ≤ (u.first * 262 + u.second) * 262 + u.third → FoundBefore F u V
moved F t u V b back on l = record {
  each = b.each;
  named = λ v m. let n = b.named v m in record { name = n.name; named = n.named; earlier = on n.name n.earlier };
  all = λ v s i r k m e. b.all v s i r k m (back s k (within F s v m) e);
  order = b.order;
  few = let k = b.few in omega arith;
}

pub down_first : (F : List HalfSpace) (i : ℕ) (V : List Homogeneous) → FoundBefore F (triple i 0 0) V → FoundBefore F (triple i (i + 1) 0) V
down_first F i V b = moved F (triple i 0 0) (triple i (i + 1) 0) V b
    (λ s r w e. let l = r.low in let h = r.high in grind arith) (λ s e. grind arith) (omega arith)

pub down_second : (F : List HalfSpace) (i j : ℕ) (V : List Homogeneous) → FoundBefore F (triple i j 0) V → FoundBefore F (triple i j (j + 1)) V
down_second F i j V b = moved F (triple i j 0) (triple i j (j + 1)) V b
    (λ s r w e. let l = r.low in let h = r.high in grind arith) (λ s e. grind arith) (omega arith)

pub next_second : (F : List HalfSpace) (i j k : ℕ) (V : List Homogeneous) → length F ≤ k → k ≤ 262 →
    FoundBefore F (triple i j k) V → FoundBefore F (triple i (j + 1) 0) V
next_second F i j k V n few b = moved F (triple i j k) (triple i (j + 1) 0) V b
    (λ s r w e. let l = r.low in let h = r.high in let x = w.third in grind arith) (λ s e. grind arith) (omega arith)

pub next_first : (F : List HalfSpace) (i j : ℕ) (V : List Homogeneous) → length F ≤ j → j ≤ 262 →
    FoundBefore F (triple i j 0) V → FoundBefore F (triple (i + 1) 0 0) V
next_first F i j V n few b = moved F (triple i j 0) (triple (i + 1) 0 0) V b
    (λ s r w e. let l = r.low in let h = r.high in let x = w.second in grind arith) (λ s e. grind arith) (omega arith)

-- ---- one triple more
pub latest : (i j k : ℕ) (s : Triple) → Earlier s (triple i j (k + 1)) → Earlier s (triple i j k) ⊎ ((s.first ≡ i) × (s.second ≡ j) × (s.third ≡ k))
latest i j k s e = grind arith

pub later : (i j k : ℕ) (s : Triple) → Earlier s (triple i j k) → Earlier s (triple i j (k + 1))
later i j k s e = grind arith

pub at_triple : (F : List HalfSpace) (i j k : ℕ) (s : Triple) (v : Homogeneous) → (s.first ≡ i) × (s.second ≡ j) × (s.third ≡ k) →
    MeetAt F s v → MeetAt F (triple i j k) v
at_triple F i j k s v e m = record {
  f = m.f;
  g = m.g;
  h = m.h;
  first = ap (λ (n : ℕ). slice_get F n) (sym e.0) ∙ m.first;
  second = ap (λ (n : ℕ). slice_get F n) (sym e.1) ∙ m.second;
  third = ap (λ (n : ℕ). slice_get F n) (sym e.2) ∙ m.third;
  on_f = m.on_f;
  on_g = m.on_g;
  on_h = m.on_h;
  independent = m.independent;
}

-- the reduced point where three faces meet
pub record IsCorner (F : List HalfSpace) (t : Triple) (p : Homogeneous) : Type 0 where
  pub meet : MeetAt F t p
  pub weight : pos 0 <ℤ p.weight
  pub reduced : IsReduced p

-- it has no vertex that isn't there
nothing_new : (F : List HalfSpace) (i j k : ℕ) (V : List Homogeneous) → FoundBefore F (triple i j k) V →
    ((v : Homogeneous) → IsIn F v → IsReduced v → MeetAt F (triple i j k) v → v ∈ V) → FoundBefore F (triple i j (k + 1)) V
nothing_new F i j k V b old = record {
  each = b.each;
  named = λ v m. let n = b.named v m in record { name = n.name; named = n.named; earlier = later i j k n.name n.earlier };
  all = λ v s w r u m e. ⊎_elim (λ l. b.all v s w r u m l) (λ same. old v w r (at_triple F i j k s v same m)) (latest i j k s e);
  order = b.order;
  few = let l = b.few in omega arith;
}

-- it has a vertex that isn't there
rise_push : (F : List HalfSpace) (V : List Homogeneous) (p : Homogeneous) → NamesRise F V →
    Every (λ v. NamedBefore F v p) V → NamesRise F (V ++ p ∷ [])
rise_push F [] p rise before = one_more_point (each_of_none _) no_points
rise_push F (q ∷ V) p (one_more_point first rise) before =
    one_more_point (each_of_push (NamedBefore F q) V p first (before q here)) (rise_push F V p rise (λ v m. before v (there m)))

name_of_new : (F : List HalfSpace) (t : Triple) (V : List Homogeneous) (p : Homogeneous) → FoundBefore F t V →
    IsIn F p → IsReduced p → MeetAt F t p → ¬ (p ∈ V) → IsName F p t
name_of_new F t V p b i r m new = record {
  meet = m;
  least = λ s n e. let k = sorted F s.first s.second s.third p n in new (b.all p k.to i r k.rising k.meet (k.no_later t e));
}

same_at : (F : List HalfSpace) (t : Triple) (p v : Homogeneous) →
    IsIn F p → IsReduced p → MeetAt F t p → IsIn F v → IsReduced v → MeetAt F t v → p ≡ v
same_at F t p v i r m j s n = one_form p v i.weight j.weight r s (one_point F t p v m n)

pub one_new : (F : List HalfSpace) (i j k : ℕ) (V : List Homogeneous) (p : Homogeneous) → FoundBefore F (triple i j k) V →
    IsCorner F (triple i j k) p → IsIn F p → ¬ (p ∈ V) → FoundBefore F (triple i j (k + 1)) (V ++ p ∷ [])
one_new F i j k V p b c w new =
    let t = triple i j k in let r = c.reduced in let m = c.meet in
    let name = name_of_new F t V p b w r m new in
    record {
      each = each_of_push (λ v. IsVertex F v × IsReduced v) V p b.each (vertex_of_meet F t p w m, r);
      named = each_of_push (NamedEarlier F (triple i j (k + 1))) V p
          (λ v n. let o = b.named v n in record { name = o.name; named = o.named; earlier = later i j k o.name o.earlier })
          (record { name = t; named = name; earlier = inr (refl, inr (refl, omega arith)) });
      all = λ v s x u y n e. ⊎_elim (λ l. member_push V p v (b.all v s x u y n l))
          (λ same. subst (λ q. q ∈ (V ++ p ∷ [])) (same_at F t p v w r m x u (at_triple F i j k s v same n)) (member_last V p)) (latest i j k s e);
      order = rise_push F V p b.order
          (λ v n. let o = b.named v n in record { p_name = o.name; q_name = t; named_p = o.named; named_q = name; earlier = o.earlier });
      few = let l = b.few in let a = length-append V (p ∷ []) in omega arith;
    }

-- it meets at a point that isn't new, or not in the solid
pub not_new : (F : List HalfSpace) (i j k : ℕ) (V : List Homogeneous) (p : Homogeneous) → FoundBefore F (triple i j k) V →
    IsCorner F (triple i j k) p → (IsIn F p → p ∈ V) → FoundBefore F (triple i j (k + 1)) V
not_new F i j k V p b c old = nothing_new F i j k V b (λ v x u n.
    let e = one_form p v c.weight x.weight c.reduced u (one_point F (triple i j k) p v c.meet n) in
    subst (λ q. q ∈ V) e (old (subst (IsIn F) (sym e) x)))

-- ---- what three planes have, as they are read
pub corner : (P : List ThreePoints) (i j k : ℕ) (a b c : ThreePoints) (p : Homogeneous) → i < length P → j < length P → k < length P →
    a ≡ get_or P i a → b ≡ get_or P j b → c ≡ get_or P k c → IsVertexOf a b c p →
    ¬ (det (half_space a).normal (half_space b).normal (half_space c).normal ≡ pos 0) → IsCorner (map half_space P) (triple i j k) p
corner P i j k a b c p l m n d e f v x = record {
  meet = record {
    f = half_space a;
    g = half_space b;
    h = half_space c;
    first = place_mapped half_space P i a l d;
    second = place_mapped half_space P j b m e;
    third = place_mapped half_space P k c n f;
    on_f = v.on_first;
    on_g = v.on_second;
    on_h = v.on_third;
    independent = x;
  };
  weight = let w = v.vertex.positive in omega (arith, ints);
  reduced = v.vertex.reduced;
}

-- three planes that meet in no point, or in more than one
pub no_meeting : (P : List ThreePoints) (i j k : ℕ) (a b c : ThreePoints) (V : List Homogeneous) → i < length P → j < length P → k < length P →
    a ≡ get_or P i a → b ≡ get_or P j b → c ≡ get_or P k c → det (half_space a).normal (half_space b).normal (half_space c).normal ≡ pos 0 →
    FoundBefore (map half_space P) (triple i j k) V → FoundBefore (map half_space P) (triple i j (k + 1)) V
no_meeting P i j k a b c V l m n d e f z b' =
    let F = map half_space P in
    nothing_new F i j k V b' (λ v w r x.
    let p = same_face F i i x.f (half_space a) x.first (place_mapped half_space P i a l d) refl in
    let q = same_face F j j x.g (half_space b) x.second (place_mapped half_space P j b m e) refl in
    let s = same_face F k k x.h (half_space c) x.third (place_mapped half_space P k c n f) refl in
    absurd (x.independent (ap (λ (h : HalfSpace). det h.normal x.g.normal x.h.normal) p
    ∙ ap (λ (h : HalfSpace). det (half_space a).normal h.normal x.h.normal) q
    ∙ ap (λ (h : HalfSpace). det (half_space a).normal (half_space b).normal h.normal) s ∙ z)))

-- ---- after the last triple
pub all_found : (F : List HalfSpace) (i : ℕ) (V : List Homogeneous) → length F ≤ i → FoundBefore F (triple i 0 0) V → AreVertices F V
all_found F i V n b = record {
  each = b.each;
  all = λ v x r. let a = met F v x in let w = within F a.at v a.meet in let l = w.first in b.all v a.at x.inside r a.rising a.meet (inl (omega arith));
  order = b.order;
}
