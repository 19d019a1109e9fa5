-- Two half-edges for each edge.
use Rattle.std.proofs.Common.{◌≡◌, ◌≢◌, ℕ, zero, suc, ◌+◌, ◌<◌, ◌≤◌, ◌/◌, Bool, true, false, cond, nat_lt, List, [], ◌∷◌, length, get_or, map, Option, Some, None, is_some, refl, sym, ap, subst, ◌∙◌, arith, inl, inr, ◌⊎◌, ⊎_elim}
use Rattle.std.specs.Prelude.{count_by}
use Rattle.std.specs.Option.{option_map_or}
use Rattle.std.proofs.lemmas.Bool.Decides.{nat_tests}
use Rattle.std.proofs.lemmas.List.{length-map}
use Rattle.std.proofs.lemmas.List.Sums.{sum_by-cons}
use Rattle.algebra.specs.Members.{◌∈◌, here, there as further}
use Rattle.algebra.proofs.Members.{member_at}
use Rattle.algebra.specs.Space.{Homogeneous, HalfSpace, SamePoint}
use Rattle.algebra.proofs.Points.{same_point_refl}
use Rattle.half_arena.specs.Slots.{slot_at}
use Rattle.half_arena.specs.declared.ids.FaceId.{FaceId}
use Rattle.vertex_laws.specs.Vertex.{IsEdge}
use Rattle.vertex_laws.proofs.HalfEdge.{edge_crosses, edge_distinct}
use Rattle.poly_laws.specs.Links.{Links, HasEdge, from_point, to_point}
use Rattle.poly_laws.specs.Loops.{OneHalfEdge}
use Rattle.poly_laws.specs.Counts.{Ends, AreEnds}
use Rattle.poly_laws.proofs.Counting.{pigeons}
use Rattle.poly_laws.proofs.Round.{one_half_edge}
use Rattle.half_poly.specs.declared.links.HalfEdge.{HalfEdge}
use Rattle.half_poly.specs.declared.links.Face.{Face}
use Rattle.half_poly.specs.Arenas.{links}
use Rattle.half_poly.specs.Shapes.{solid_of, sides_of, IsShape}
use Rattle.half_poly.specs.Edges.{HasEdgeCount}
use Rattle.half_poly.proofs.ArenaReads.{there, read, live_is}
use Rattle.half_poly.proofs.Listed.{source, image, get_map}

-- ---- the places of elements that pass
abbrev with_first : Bool → List ℕ → List ℕ
with_first true xs = zero ∷ xs
with_first false xs = xs

indices : {S : Type 0} → (S → Bool) → List S → List ℕ
indices p [] = []
indices p (s ∷ slots) = with_first (p s) (map suc (indices p slots))

bool_cases : (b : Bool) → (b ≡ true) ⊎ (b ≡ false)
bool_cases true = inl refl
bool_cases false = inr refl

indices_count : {S : Type 0} (p : S → Bool) (slots : List S) → length (indices p slots) ≡ count_by p slots
unfolding indices
indices_count p [] = refl
indices_count {S} p (s ∷ slots) = by (bool_cases (p s)) (indices_count p slots)
  where
    by : (p s ≡ true) ⊎ (p s ≡ false) → length (indices p slots) ≡ count_by p slots → length (with_first (p s) (map suc (indices p slots))) ≡ count_by p (s ∷ slots)
    by (inl t) m = let l = length-map (indices p slots) suc in rw (sum_by-cons (λ y. cond (p y) 1 0) s slots, t) (omega arith)
    by (inr t) m = let l = length-map (indices p slots) suc in rw (sum_by-cons (λ y. cond (p y) 1 0) s slots, t) (omega arith)

in_first : (b : Bool) (xs : List ℕ) (i : ℕ) → i ∈ with_first b xs → ((i ≡ zero) × (b ≡ true)) ⊎ (i ∈ xs)
in_first true xs i here = inl (refl, refl)
in_first true xs i (further m) = inr m
in_first false xs i m = inr m

indices_pass : {S : Type 0} (p : S → Bool) (d : S) (slots : List S) (i : ℕ) → i ∈ indices p slots → p (get_or slots i d) ≡ true
unfolding indices
indices_pass p d [] i m = elim m [ ]
indices_pass {S} p d (s ∷ slots) i m = ⊎_elim
    (λ q. ap (λ k. p (get_or (s ∷ slots) k d)) q.0 ∙ q.1)
    (λ n. let x = source suc (indices p slots) i n in ap (λ k. p (get_or (s ∷ slots) k d)) (sym x.is) ∙ indices_pass p d slots x.it x.among)
    (in_first (p s) (map suc (indices p slots)) i m)

first_there : (b : Bool) (xs : List ℕ) → b ≡ true → zero ∈ with_first b xs
first_there true xs q = here
first_there false xs q = absurd (cc)

later_there : (b : Bool) (xs : List ℕ) (i : ℕ) → i ∈ xs → i ∈ with_first b xs
later_there true xs i m = further m
later_there false xs i m = m

indices_all : {S : Type 0} (p : S → Bool) (d : S) (slots : List S) (i : ℕ) → p d ≡ false → p (get_or slots i d) ≡ true → i ∈ indices p slots
unfolding indices
indices_all p d [] i n t = absurd (cc)
indices_all p d (s ∷ slots) zero n t = first_there (p s) (map suc (indices p slots)) t
indices_all p d (s ∷ slots) (suc i) n t = later_there (p s) (map suc (indices p slots)) (suc i) (image suc (indices p slots) i (indices_all p d slots i n t))

-- the places rise
Rises : List ℕ → Type 0
Rises xs = (i j : ℕ) → i < j → j < length xs → get_or xs i 0 < get_or xs j 0

raised_rise : (xs : List ℕ) → Rises xs → Rises (map suc xs)
unfolding Rises
raised_rise xs r i j l m =
    let e = length-map xs suc in let k : j < length xs = omega arith in
    let a = get_map suc xs i 0 0 (omega arith) in let b = get_map suc xs j 0 0 k in let c = r i j l k in omega arith

first_rises : (b : Bool) (xs : List ℕ) → Rises (map suc xs) → Rises (with_first b (map suc xs))
unfolding Rises
first_rises false xs r i j l m = r i j l m
first_rises true xs r zero zero l m = absurd (omega arith)
first_rises true xs r zero (suc j) l m = let e = length-map xs suc in let b = get_map suc xs j 0 0 (omega arith) in omega arith
first_rises true xs r (suc i) zero l m = absurd (omega arith)
first_rises true xs r (suc i) (suc j) l m = r i j (omega arith) (omega arith)

indices_rise : {S : Type 0} (p : S → Bool) (slots : List S) → Rises (indices p slots)
unfolding indices Rises
indices_rise p [] = λ i j l m. absurd (omega arith)
indices_rise p (s ∷ slots) = first_rises (p s) (indices p slots) (raised_rise (indices p slots) (indices_rise p slots))

less_is : {a b : ℕ} → nat_lt a b ≡ true → a < b
less_is {a} {b} h = grind (arith, nat_tests)

less_so : {a b : ℕ} → a < b → nat_lt a b ≡ true
less_so {a} {b} h = grind (arith, nat_tests)

doubled : (k : ℕ) → (k + k) / 2 ≡ k
doubled k = omega arith

-- ---- the half-edges that begin at the lower slot, and at the higher
module _ {V : ℕ → Option Homogeneous} (slots : List (Option HalfEdge)) {Fc : ℕ → Option Face} {order : List FaceId} (sh : IsShape V (slot_at slots) Fc order) where
  abbrev E : ℕ → Option HalfEdge
  E = slot_at slots

  abbrev L : Links
  L = links V E Fc

  abbrev F : List HalfSpace
  F = solid_of (sides_of Fc order)

  begins : ℕ → ℕ
  begins e = option_map_or (λ (h : HalfEdge). h.origin.0) (E e) 0

  low : Option HalfEdge → Bool
  low s = option_map_or (λ (h : HalfEdge). nat_lt h.origin.0 (begins h.twin.0)) s false

  high : Option HalfEdge → Bool
  high s = option_map_or (λ (h : HalfEdge). nat_lt (begins h.twin.0) h.origin.0) s false

  low_is : (e : ℕ) → low (E e) ≡ true → HasEdge L e × (L.origin e < L.origin (L.twin e))
  unfolding low begins
  low_is e t = by (E e) refl t
    where
      by : (s : Option HalfEdge) → E e ≡ s → option_map_or (λ (h : HalfEdge). nat_lt h.origin.0 (option_map_or (λ (x : HalfEdge). x.origin.0) (E h.twin.0) 0)) s false ≡ true → HasEdge L e × (L.origin e < L.origin (L.twin e))
      by None q t = absurd (cc)
      by (Some h) q t =
          let a : L.origin e ≡ h.origin.0 = read (λ (x : HalfEdge). x.origin.0) 0 q in
          let b : L.twin e ≡ h.twin.0 = read (λ (x : HalfEdge). x.twin.0) 0 q in
          let c : L.origin (L.twin e) ≡ L.origin h.twin.0 = ap L.origin b in
          let l : h.origin.0 < L.origin h.twin.0 = less_is t in
          (live_is q, omega arith)

  is_low : (e : ℕ) → HasEdge L e → L.origin e < L.origin (L.twin e) → low (E e) ≡ true
  unfolding low begins
  is_low e h l =
      let x = there (E e) h in
      let a : L.origin e ≡ x.it.origin.0 = read (λ (y : HalfEdge). y.origin.0) 0 x.is in
      let b : L.twin e ≡ x.it.twin.0 = read (λ (y : HalfEdge). y.twin.0) 0 x.is in
      let c : L.origin (L.twin e) ≡ L.origin x.it.twin.0 = ap L.origin b in
      read (λ (y : HalfEdge). nat_lt y.origin.0 (option_map_or (λ (z : HalfEdge). z.origin.0) (E y.twin.0) 0)) false x.is ∙ less_so (omega arith)

  high_is : (e : ℕ) → high (E e) ≡ true → HasEdge L e × (L.origin (L.twin e) < L.origin e)
  unfolding high begins
  high_is e t = by (E e) refl t
    where
      by : (s : Option HalfEdge) → E e ≡ s → option_map_or (λ (h : HalfEdge). nat_lt (option_map_or (λ (x : HalfEdge). x.origin.0) (E h.twin.0) 0) h.origin.0) s false ≡ true → HasEdge L e × (L.origin (L.twin e) < L.origin e)
      by None q t = absurd (cc)
      by (Some h) q t =
          let a : L.origin e ≡ h.origin.0 = read (λ (x : HalfEdge). x.origin.0) 0 q in
          let b : L.twin e ≡ h.twin.0 = read (λ (x : HalfEdge). x.twin.0) 0 q in
          let c : L.origin (L.twin e) ≡ L.origin h.twin.0 = ap L.origin b in
          let l : L.origin h.twin.0 < h.origin.0 = less_is t in
          (live_is q, omega arith)

  is_high : (e : ℕ) → HasEdge L e → L.origin (L.twin e) < L.origin e → high (E e) ≡ true
  unfolding high begins
  is_high e h l =
      let x = there (E e) h in
      let a : L.origin e ≡ x.it.origin.0 = read (λ (y : HalfEdge). y.origin.0) 0 x.is in
      let b : L.twin e ≡ x.it.twin.0 = read (λ (y : HalfEdge). y.twin.0) 0 x.is in
      let c : L.origin (L.twin e) ≡ L.origin x.it.twin.0 = ap L.origin b in
      read (λ (y : HalfEdge). nat_lt (option_map_or (λ (z : HalfEdge). z.origin.0) (E y.twin.0) 0) y.origin.0) false x.is ∙ less_so (omega arith)

  -- a half-edge and its twin begin at different vertices
  ends_differ : (e : ℕ) → HasEdge L e → L.origin e ≢ L.origin (L.twin e)
  ends_differ e h q = edge_distinct (sh.stands.edge e h) (subst (λ x. SamePoint (L.point (L.origin e)) (L.point x)) q (same_point_refl (L.point (L.origin e))))

  twin_low : (e : ℕ) → low (E e) ≡ true → high (E (L.twin e)) ≡ true
  twin_low e t = let l = low_is e t in is_high (L.twin e) (sh.stands.twin_live e l.0) (subst (λ x. L.origin x < L.origin (L.twin e)) (sym (sh.stands.twin_twin e l.0)) l.1)

  twin_high : (e : ℕ) → high (E e) ≡ true → low (E (L.twin e)) ≡ true
  twin_high e t = let l = high_is e t in is_low (L.twin e) (sh.stands.twin_live e l.0) (subst (λ x. L.origin (L.twin e) < L.origin x) (sym (sh.stands.twin_twin e l.0)) l.1)

  one_twin : (i j y : ℕ) → HasEdge L i → HasEdge L j → L.twin i ≡ y → L.twin j ≡ y → i ≡ j
  one_twin i j y h k q r = sym (sh.stands.twin_twin i h) ∙ ap L.twin (q ∙ sym r) ∙ sh.stands.twin_twin j k

  record TwinOf (i y : ℕ) : Type 0 where
    live : HasEdge L i
    is : L.twin i ≡ y

  low_few : count_by low slots ≤ count_by high slots
  unfolding high
  low_few = subst (λ n. count_by low slots ≤ n) (indices_count high slots) (pigeons low None slots (indices high slots) TwinOf
      (λ i t. record { it = L.twin i; among = indices_all high None slots (L.twin i) no_high (twin_low i t); stands = record { live = (low_is i t).0; is = refl } })
      (λ i j y a b. one_twin i j y a.live b.live a.is b.is))
    where
      no_high : high None ≡ false
      no_high = refl

  high_few : count_by high slots ≤ count_by low slots
  unfolding low
  high_few = subst (λ n. count_by high slots ≤ n) (indices_count low slots) (pigeons high None slots (indices low slots) TwinOf
      (λ i t. record { it = L.twin i; among = indices_all low None slots (L.twin i) no_low (twin_high i t); stands = record { live = (high_is i t).0; is = refl } })
      (λ i j y a b. one_twin i j y a.live b.live a.is b.is))
    where
      no_low : low None ≡ false
      no_low = refl

  -- each live slot is one or the other
  one_of_both : (e : ℕ) → cond (is_some (E e)) 1 0 ≡ cond (low (E e)) 1 0 + cond (high (E e)) 1 0
  one_of_both e = by (bool_cases (is_some (E e))) (bool_cases (low (E e))) (bool_cases (high (E e)))
    where
      either : (a b : ℕ) → a ≢ b → (a < b) ⊎ (b < a)
      either a b n = grind arith

      by : (is_some (E e) ≡ true) ⊎ (is_some (E e) ≡ false) → (low (E e) ≡ true) ⊎ (low (E e) ≡ false) → (high (E e) ≡ true) ⊎ (high (E e) ≡ false) → cond (is_some (E e)) 1 0 ≡ cond (low (E e)) 1 0 + cond (high (E e)) 1 0
      by (inl s) (inl l) (inl h) = let a = (low_is e l).1 in let b = (high_is e h).1 in absurd (omega arith)
      by (inl s) (inl l) (inr h) = rw (s, l, h) refl
      by (inl s) (inr l) (inl h) = rw (s, l, h) refl
      by (inl s) (inr l) (inr h) = ⊎_elim (λ a. let z = is_low e s a in absurd (cc)) (λ a. let z = is_high e s a in absurd (cc)) (either (L.origin e) (L.origin (L.twin e)) (ends_differ e s))
      by (inr s) (inl l) h = let z = (low_is e l).0 in absurd (cc)
      by (inr s) (inr l) (inl h) = let z = (high_is e h).0 in absurd (cc)
      by (inr s) (inr l) (inr h) = rw (s, l, h) refl

  both_counted : count_by is_some slots ≡ count_by low slots + count_by high slots
  both_counted = counted slots (λ e. one_of_both e)
    where
      counted : (xs : List (Option HalfEdge)) → ((e : ℕ) → cond (is_some (get_or xs e None)) 1 0 ≡ cond (low (get_or xs e None)) 1 0 + cond (high (get_or xs e None)) 1 0) → count_by is_some xs ≡ count_by low xs + count_by high xs
      counted [] each = refl
      counted (x ∷ xs) each =
          let m = counted xs (λ e. each (suc e)) in let o = each zero in
          rw (sum_by-cons (λ y. cond (is_some y) 1 0) x xs, sum_by-cons (λ y. cond (low y) 1 0) x xs, sum_by-cons (λ y. cond (high y) 1 0) x xs) (omega arith)

  -- ---- the edges
  ends : ℕ → Ends
  ends e = record { first = from_point L e; second = to_point L e }

  pub is_edge : (e : ℕ) → HasEdge L e → IsEdge F (from_point L e) (to_point L e)
  is_edge e h = let x = sh.stands.edge e h in record {
    p_vertex = x.a_vertex;
    q_vertex = x.b_vertex;
    distinct = edge_distinct x;
    f = L.plane (L.face e);
    g = L.plane (L.face (L.twin e));
    f_in = x.f_in;
    g_in = x.g_in;
    crossing = edge_crosses x;
    p_on_f = x.a_on_f;
    q_on_f = x.b_on_f;
    p_on_g = x.a_on_g;
    q_on_g = x.b_on_g;
  }

  found : (a b : Homogeneous) → IsEdge F a b → (e : Ends) × e ∈ map ends (indices low slots) × AreEnds a b e
  unfolding ends low
  found a b d =
      let o : OneHalfEdge L a b = one_half_edge F L a b sh.neat sh.stands d in
      ⊎_elim
      (λ l. (ends o.slot, image ends (indices low slots) o.slot (indices_all low None slots o.slot refl (is_low o.slot o.live l)), inl (o.from, o.to)))
      (λ l. let t = L.twin o.slot in let q = sh.stands.twin_twin o.slot o.live in (
        ends t,
        image ends (indices low slots) t (indices_all low None slots t refl (twin_high o.slot (is_high o.slot o.live l))),
        inr (subst (λ x. SamePoint a (L.point (L.origin x))) (sym q) o.from, o.to),
      ))
      (either (L.origin o.slot) (L.origin (L.twin o.slot)) (ends_differ o.slot o.live))
    where
      either : (a b : ℕ) → a ≢ b → (a < b) ⊎ (b < a)
      either a b n = grind arith

  -- two half-edges that begin at the lower slot join no two points alike
  apart : (e d : ℕ) → low (E e) ≡ true → low (E d) ≡ true → ¬ (e ≡ d) → ¬ (AreEnds (from_point L e) (to_point L e) (ends d))
  unfolding ends
  apart e d t u n (inl s) = n (let h = low_is e t in let k = low_is d u in
      let o : OneHalfEdge L (from_point L e) (to_point L e) = one_half_edge F L (from_point L e) (to_point L e) sh.neat sh.stands (is_edge e h.0) in
      o.only e h.0 (same_point_refl (from_point L e)) (same_point_refl (to_point L e)) ∙ sym (o.only d k.0 s.0 s.1))
  apart e d t u n (inr s) =
      let h = low_is e t in let k = low_is d u in
      let a = sh.stands.vertex_once (L.origin e) (L.origin (L.twin d)) (sh.stands.origin_live e h.0) (sh.stands.origin_live (L.twin d) (sh.stands.twin_live d k.0)) s.0 in
      let b = sh.stands.vertex_once (L.origin (L.twin e)) (L.origin d) (sh.stands.origin_live (L.twin e) (sh.stands.twin_live e h.0)) (sh.stands.origin_live d k.0) s.1 in
      let x = h.1 in let y = k.1 in absurd (omega arith)

  pub edge_count : (n : ℕ) → n ≡ count_by is_some slots / 2 → HasEdgeCount F n
  unfolding ends Rises
  edge_count n q = record {
    edges = map ends (indices low slots);
    count = length-map (indices low slots) ends ∙ indices_count low slots ∙ half;
    each = λ x m. let s = source ends (indices low slots) x m in subst (λ (y : Ends). IsEdge F y.first y.second) s.is (edge_at s.it (low_is s.it (indices_pass low None slots s.it s.among)).0);
    all = found;
    once = λ i j d l m. differ i j d l m;
  }
    where
      half : count_by low slots ≡ n
      half =
          let a = low_few in let b = high_few in let c = both_counted in
          let e : count_by is_some slots ≡ count_by low slots + count_by low slots = omega arith in sym (q ∙ ap (λ k. k / 2) e ∙ doubled (count_by low slots))

      edge_at : (e : ℕ) → HasEdge L e → IsEdge F (ends e).first (ends e).second
      edge_at e h = is_edge e h

      differ : (i j : ℕ) (d : Ends) → i < j → j < length (map ends (indices low slots)) → ¬ (AreEnds (get_or (map ends (indices low slots)) i d).first (get_or (map ends (indices low slots)) i d).second (get_or (map ends (indices low slots)) j d))
      differ i j d l m =
          let k : j < length (indices low slots) = subst (λ x. j < x) (length-map (indices low slots) ends) m in
          let o : i < length (indices low slots) = omega arith in
          let a = get_map ends (indices low slots) i 0 d o in let b = get_map ends (indices low slots) j 0 d k in
          let r = indices_rise low slots i j l k in
          let n = apart (get_or (indices low slots) i 0) (get_or (indices low slots) j 0) (indices_pass low None slots (get_or (indices low slots) i 0) (member_at (indices low slots) i 0 o))
          (indices_pass low None slots (get_or (indices low slots) j 0) (member_at (indices low slots) j 0 k)) (λ e. absurd (omega arith)) in
          rw (a, b) n
