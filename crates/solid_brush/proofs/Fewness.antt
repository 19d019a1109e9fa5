-- A solid with at most 128 faces has fewer than 2^32 vertices: their names differ.
use Rattle.std.proofs.Common.{◌≡◌, ℕ, zero, suc, ◌+◌, ◌*◌, ◌^◌, ◌<◌, ◌≤◌, List, [], ◌∷◌, length, map, slice_get, Option, None, Some, IfSome, MatchOption, refl, subst, arith}
use Rattle.std.proofs.lemmas.Option.{slice_get_within}
use Rattle.algebra.specs.Members.{◌∈◌, here, there}
use Rattle.algebra.specs.Space.{Homogeneous, HalfSpace}
use Rattle.solid_laws.specs.Names.{Triple, IsName, NamesRise, one_more_point, AreVertices}
use Rattle.solid_laws.specs.FaceLoop.{IsNumberedLoop, HasVertexCount, HasLoopVertex}
use Rattle.solid_laws.proofs.Name.{name}
use Rattle.solid_laws.specs.Laws.{OneName}
use Rattle.vertex_laws.specs.Vertex.{IsVertex}
use Rattle.half_poly.proofs.Chain.{Once, few}
use Rattle.half_poly.proofs.Named.{one_point}
use Rattle.half_poly.proofs.WalkLaws.{not_same}

code : Triple → ℕ
code t = t.first * 16384 + t.second * 128 + t.third

code_plain : (a b c x y z : ℕ) → a < 128 → b < 128 → c < 128 → x < 128 → y < 128 → z < 128 → a * 16384 + b * 128 + c ≡ x * 16384 + y * 128 + z → (a ≡ x) × (b ≡ y) × (c ≡ z)
code_plain a b c x y z h i j k l m e = (omega arith, omega arith, omega arith)

triple_by : (s t : Triple) → s.first ≡ t.first → s.second ≡ t.second → s.third ≡ t.third → s ≡ t
triple_by s t p q r = λ i. record { first = p i; second = q i; third = r i }

module _ (F : List HalfSpace) (small : length F ≤ 128) where
  record IsSmall (t : Triple) : Type 0 where
    a : t.first < 128
    b : t.second < 128
    c : t.third < 128

  small_name : {v : Homogeneous} (t : Triple) → IsName F v t → IsSmall t
  small_name t n = record {
    a = let l = slice_get_within F t.first n.meet.f n.meet.first in omega arith;
    b = let l = slice_get_within F t.second n.meet.g n.meet.second in omega arith;
    c = let l = slice_get_within F t.third n.meet.h n.meet.third in omega arith;
  }

  same_triple : (s t : Triple) → IsSmall s → IsSmall t → code s ≡ code t → s ≡ t
  unfolding code
  same_triple s t i j e = let p = code_plain s.first s.second s.third t.first t.second t.third i.a i.b i.c j.a j.b j.c e in triple_by s t p.0 p.1 p.2

  record Named (V : List Homogeneous) (n : ℕ) : Type 0 where
    v : Homogeneous
    t : Triple
    among : v ∈ V
    named : IsName F v t
    is : n ≡ code t

  record Coded (V : List Homogeneous) : Type 0 where
    codes : List ℕ
    count : length codes ≡ length V
    once : Once codes
    from : (n : ℕ) → n ∈ codes → Named V n

  later : {V : List Homogeneous} {p : Homogeneous} {n : ℕ} → Named V n → Named (p ∷ V) n
  later k = record { v = k.v; t = k.t; among = there k.among; named = k.named; is = k.is }

  coded : (V : List Homogeneous) → ((v : Homogeneous) → v ∈ V → IsVertex F v) → NamesRise F V → Coded V
  coded [] each r = record { codes = []; count = refl; once = tt; from = λ n m. elim m [ ] }
  coded (p ∷ V) each (one_more_point before r) = more (coded V (λ v m. each v (there m)) r) (name F p (each p here))
    where
      from : (o : OneName F p) (c : Coded V) (n : ℕ) → n ∈ (code o.name ∷ c.codes) → Named (p ∷ V) n
      from o c n here = record { v = p; t = o.name; among = here; named = o.named; is = refl }
      from o c n (there m) = later (c.from n m)

      fresh : (o : OneName F p) (c : Coded V) → ¬ (code o.name ∈ c.codes)
      fresh o c m =
          let k = c.from (code o.name) m in
          let e = same_triple o.name k.t (small_name o.name o.named) (small_name k.t k.named) k.is in
          not_same F p k.v (each p here).inside.weight (before k.v k.among) (one_point F k.t p k.v (subst (λ t. IsName F p t) e o.named).meet k.named.meet)

      more : Coded V → OneName F p → Coded (p ∷ V)
      more c o = record { codes = code o.name ∷ c.codes; count = let e = c.count in omega arith; once = (fresh o c, c.once); from = from o c }

  code_below : (n : ℕ) (t : Triple) → IsSmall t → n ≡ code t → n < 2097152
  unfolding code
  code_below n t s e = let a = s.a in let b = s.b in let c = s.c in omega arith

  pub few_vertices : (V : List Homogeneous) → AreVertices F V → length V < 2 ^ 32
  few_vertices V a =
      let c = coded V (λ v m. (a.each v m).0) a.order in
      let l = few 2097152 c.codes c.once (λ n m. let k = c.from n m in code_below n k.t (small_name k.t k.named) k.is) in
      let e = c.count in omega arith

  -- ---- the readers
  pub few_counted : (n : ℕ) → HasVertexCount F n → n < 2 ^ 32
  few_counted n h = let l = few_vertices h.V h.vertices in let e = h.is_count in omega arith

  picked_small : (V : List Homogeneous) (numbers : List ℕ) (points : List Homogeneous) → map (λ k. slice_get V k) numbers ≡ map Some points → (k n : ℕ) → slice_get numbers k ≡ Some n → n < length V
  picked_small V [] points q k n e = absurd (cc)
  picked_small V (m ∷ numbers) [] q k n e = absurd (cc)
  picked_small V (m ∷ numbers) (p ∷ points) q zero n e = let d : m ≡ n = some_is e in subst (λ i. i < length V) d (slice_get_within V m p (first q))
    where
      some_is : {x y : ℕ} → Some x ≡ Some y → x ≡ y
      some_is {x} {y} q = cc

      first : {x y : Option Homogeneous} {xs ys : List (Option Homogeneous)} → x ∷ xs ≡ y ∷ ys → x ≡ y
      first {x} {y} {xs} {ys} q = cc
  picked_small V (m ∷ numbers) (p ∷ points) q (suc k) n e = picked_small V numbers points (rest q) k n e
    where
      rest : {x y : Option Homogeneous} {xs ys : List (Option Homogeneous)} → x ∷ xs ≡ y ∷ ys → xs ≡ ys
      rest {x} {y} {xs} {ys} q = cc

  pub few_in_loop : (face k : ℕ) (number : Option ℕ) → HasLoopVertex F face k number → IfSome number (λ n. n < 2 ^ 32)
  few_in_loop face k None h = tt
  few_in_loop face k (Some n) h = by (slice_get F face) refl
    where
      l : length h.V < 2 ^ 32
      l = few_vertices h.V h.vertices

      at : {o : Option HalfSpace} → slice_get F face ≡ o → MatchOption o (h.numbers ≡ []) (λ f. IsNumberedLoop F f h.V h.numbers)
      at q = subst (λ o. MatchOption o (h.numbers ≡ []) (λ f. IsNumberedLoop F f h.V h.numbers)) q h.face_loop

      none : {xs : List ℕ} → xs ≡ [] → slice_get xs k ≡ Some n → ⊥
      none q e = let z : slice_get [] k ≡ Some n = subst (λ ys. slice_get ys k ≡ Some n) q e in empty k z
        where
          empty : (k : ℕ) → slice_get [] k ≡ Some n → ⊥
          empty zero z = absurd (cc)
          empty (suc k) z = absurd (cc)

      by : (o : Option HalfSpace) → slice_get F face ≡ o → n < 2 ^ 32
      by None q = absurd (none (at q) h.is_number)
      by (Some f) q = let i = at q in let d = l in let m = picked_small h.V h.numbers i.points i.picked k n h.is_number in omega arith
