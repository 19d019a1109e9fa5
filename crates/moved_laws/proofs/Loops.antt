-- The loops of the faces of moved solids.
use Rattle.std.proofs.Common.{◌≡◌, List, [], ◌∷◌, map, ap, sym, ◌∙◌, refl, subst, true, false, ℕ, Some, option_map, ℤ, pos, negsuc, neg_ℤ, ◌+ℤ◌, ◌*ℤ◌, ◌<ℤ◌}
use Rattle.std.specs.Prelude.{slice_get}
use Rattle.algebra.specs.Members.{◌∈◌}
use Rattle.algebra.specs.Space.{Vector, Homogeneous, HalfSpace, SamePoint, dot, cross, det, plus, minus, scale, side, way}
use Rattle.algebra.proofs.Expr.{read}
use Rattle.algebra.proofs.Ring.{ring}
use Rattle.algebra.proofs.Orders.{signs, eq_by, eq_by_3, positive_of_product}
use Rattle.algebra.proofs.Identities.{with_vector, with_half_space, with_point}
use Rattle.orient48.specs.Motions.{Motion, turned, back, moved_half, moved_at}
use Rattle.orient48.specs.Laws.{IsTurn}
use Rattle.orient48.proofs.Signs.{Sign}
use Rattle.vertex_laws.specs.Vertex.{IsVertex}
use Rattle.vertex_laws.specs.HalfEdge.{turn, IsAmong}
use Rattle.vertex_laws.specs.Loop.{IsNext, at_front, later, closed, Distinct, distinct_none, distinct_more, IsLoop}
use Rattle.solid_laws.specs.FaceLoop.{IsNumberedLoop}
use Rattle.moved_laws.specs.Moved.{moved_list, run_back}
use Rattle.moved_laws.specs.Laws.{LoopsMovedLaw}
use Rattle.moved_laws.proofs.Halves.{side_moved, each_point, point_back}
use Rattle.moved_laws.proofs.Points.{each_moved, among_moved}
use Rattle.moved_laws.proofs.Corners.{once, vertex_onto, vertex_was}
use Rattle.moved_laws.proofs.Named.{get_map}
use Rattle.moved_laws.proofs.Edges.{way_moved, triple_moved, sign_flip, sign_kept}
use Rattle.moved_laws.proofs.RunBack.{in_run_back, among_run_back, map_append, map_run_back, least_run_back, next_back, in_closed, next_first, next_second, distinct_run_back}

-- ---- points that are one
point_plain : (m : Vector) (s : ℤ) (p q : Homogeneous) → SamePoint p q → (dot m p.vector +ℤ p.weight *ℤ s) *ℤ q.weight ≡ (dot m q.vector +ℤ q.weight *ℤ s) *ℤ p.weight
unfolding dot
point_plain m s p q h = eq_by_3 m.x m.y m.z h.x h.y h.z (ring (s ∷ with_vector m (with_point p (with_point q []))) (search read depth 30 fits 20000) tt)

same_point_onto : (r : Motion) (p q : Homogeneous) → SamePoint p q → SamePoint (moved_at r p) (moved_at r q)
unfolding plus scale
same_point_onto r p q h =
    record { x = point_plain r.matrix.x r.shift.x p q h; y = point_plain r.matrix.y r.shift.y p q h; z = point_plain r.matrix.z r.shift.z p q h }

same_point_from : (r : Motion) (p q : Homogeneous) → IsTurn r.matrix → SamePoint (moved_at r p) (moved_at r q) → SamePoint p q
same_point_from r p q t h = subst (λ x. SamePoint x q) (point_back r p t)
    (subst (SamePoint (moved_at (back r) (moved_at r p))) (point_back r q t) (same_point_onto (back r) (moved_at r p) (moved_at r q) h))

distinct_onto : (r : Motion) (S : List Homogeneous) → IsTurn r.matrix → Distinct S → Distinct (map (moved_at r) S)
distinct_onto r [] t distinct_none = distinct_none
distinct_onto r (s ∷ S) t (distinct_more n d) =
    distinct_more (each_moved (moved_at r) (λ q. ¬ (SamePoint (moved_at r s) q)) S (λ p i e. n p i (same_point_from r s p t e))) (distinct_onto r S t d)

-- ---- turns
turn_moved : (r : Motion) (f : HalfSpace) (a b c : Homogeneous) → turn (moved_half r f) (moved_at r a) (moved_at r b) (moved_at r c) ≡ det r.matrix.x r.matrix.y r.matrix.z *ℤ turn f a b c
unfolding turn
turn_moved r f a b c = (λ i. dot (cross (way_moved r b a i) (way_moved r b c i)) (turned r.matrix f.normal)) ∙ triple_moved r.matrix (way b a) (way b c) f.normal

turn_round : (f : HalfSpace) (a b c : Homogeneous) → a.weight *ℤ turn f a b c ≡ neg_ℤ (b.weight *ℤ turn f b a c)
unfolding turn dot cross way minus scale
turn_round f a b c = ring (with_point a (with_point b (with_point c (with_half_space f [])))) (search read depth 20) tt

flip_plain : (v w t u : ℤ) → pos 0 <ℤ v → pos 0 <ℤ w → pos 0 <ℤ t → v *ℤ t ≡ neg_ℤ (w *ℤ u) → pos 0 <ℤ (negsuc 0 *ℤ u)
flip_plain v w t u h k l e =
    let z : w *ℤ (negsuc 0 *ℤ u) ≡ v *ℤ t = eq_by (negsuc 0) e (ring (v ∷ w ∷ t ∷ u ∷ []) (search read depth 20) tt) in
    positive_of_product w k (rw z (search signs))

-- ---- neighbours
next_moved : (r : Motion) (P : Homogeneous → Homogeneous → Type 0) (T : List Homogeneous) → ((a b : Homogeneous) → IsNext a b T → P (moved_at r a) (moved_at r b)) →
    (a b : Homogeneous) → IsNext a b (map (moved_at r) T) → P a b
next_moved r P [] h a b n = elim n [ ]
next_moved r P (x ∷ []) h a b (later n) = elim n [ ]
next_moved r P (x ∷ y ∷ T) h a b at_front = h x y at_front
next_moved r P (x ∷ y ∷ T) h a b (later n) = next_moved r P (y ∷ T) (λ c d m. h c d (later m)) a b n

closed_map : (r : Motion) (T : List Homogeneous) → closed (map (moved_at r) T) ≡ map (moved_at r) (closed T)
closed_map r [] = refl
closed_map r (x ∷ X) = sym (map_append (moved_at r) (x ∷ X) (x ∷ []))

-- ---- loops
loop_vertices : (r : Motion) (F : List HalfSpace) (f : HalfSpace) (S : List Homogeneous) → IsTurn r.matrix → IsLoop F f S →
    (q : Homogeneous) → q ∈ map (moved_at r) S → IsVertex (moved_list r F) q × (side (moved_half r f) q ≡ pos 0)
loop_vertices r F f S t h = each_moved (moved_at r) (λ q. IsVertex (moved_list r F) q × (side (moved_half r f) q ≡ pos 0)) S
    (λ v i. (vertex_onto r F v t (h.vertices v i).0, side_moved r f v t ∙ (h.vertices v i).1))

loop_all : (r : Motion) (F : List HalfSpace) (f : HalfSpace) (S : List Homogeneous) → IsTurn r.matrix → IsLoop F f S →
    (q : Homogeneous) → IsVertex (moved_list r F) q → side (moved_half r f) q ≡ pos 0 → IsAmong q (map (moved_at r) S)
loop_all r F f S t h q u z =
    let p = moved_at (back r) q in
    let m = h.all p (vertex_was r F q t u) (sym (side_moved r f p t) ∙ ap (side (moved_half r f)) (each_point r q t) ∙ z) in
    record {
      s = moved_at r m.s;
      among = among_moved (moved_at r) m.s S m.among;
      same = subst (λ x. SamePoint x (moved_at r m.s)) (each_point r q t) (same_point_onto r p m.s m.same);
    }

loop_onto : (r : Motion) (F : List HalfSpace) (f : HalfSpace) (S : List Homogeneous) → IsTurn r.matrix → Sign r.matrix false → IsLoop F f S →
    IsLoop (moved_list r F) (moved_half r f) (map (moved_at r) S)
loop_onto r F f S t s h = record {
  vertices = loop_vertices r F f S t h;
  all = loop_all r F f S t h;
  once = distinct_onto r S t h.once;
  turns = λ a b c n. next_moved r
      (λ a b. (c : Homogeneous) → c ∈ map (moved_at r) S → ¬ (SamePoint c a) → ¬ (SamePoint c b) → pos 0 <ℤ turn (moved_half r f) a b c) (closed S)
      (λ x y k. each_moved (moved_at r)
      (λ c. ¬ (SamePoint c (moved_at r x)) → ¬ (SamePoint c (moved_at r y)) → pos 0 <ℤ turn (moved_half r f) (moved_at r x) (moved_at r y) c) S
      (λ z i na nb. subst (λ d. pos 0 <ℤ d) (sym (turn_moved r f x y z ∙ ap (λ d. d *ℤ turn f x y z) s.is ∙ once (turn f x y z)))
      (h.turns x y z k i (λ e. na (same_point_onto r z x e)) (λ e. nb (same_point_onto r z y e)))))
      a b (subst (IsNext a b) (closed_map r S) n) c;
}

loop_round : (r : Motion) (F : List HalfSpace) (f : HalfSpace) (S : List Homogeneous) → IsTurn r.matrix → Sign r.matrix true → IsLoop F f S →
    IsLoop (moved_list r F) (moved_half r f) (run_back (map (moved_at r) S))
loop_round r F f S t s h = record {
  vertices = λ q i. loop_vertices r F f S t h q (in_run_back q (map (moved_at r) S) i);
  all = λ q u z. let m = loop_all r F f S t h q u z in record { s = m.s; among = among_run_back m.s (map (moved_at r) S) m.among; same = m.same };
  once = distinct_run_back (map (moved_at r) S) (distinct_onto r S t h.once);
  turns = λ a b c n i na nb. next_moved r
      (λ b a. (c : Homogeneous) → c ∈ map (moved_at r) S → ¬ (SamePoint c a) → ¬ (SamePoint c b) → pos 0 <ℤ turn (moved_half r f) a b c) (closed S)
      (λ x y k. each_moved (moved_at r)
      (λ c. ¬ (SamePoint c (moved_at r y)) → ¬ (SamePoint c (moved_at r x)) → pos 0 <ℤ turn (moved_half r f) (moved_at r y) (moved_at r x) c) S
      (λ z i nb na. subst (λ d. pos 0 <ℤ d) (sym (turn_moved r f y x z ∙ ap (λ d. d *ℤ turn f y x z) s.is))
      (flip_plain x.weight y.weight (turn f x y z) (turn f y x z) (weight x (next_first x y (closed S) k)) (weight y (next_second x y (closed S) k))
      (h.turns x y z k i (λ e. na (same_point_onto r z x e)) (λ e. nb (same_point_onto r z y e))) (turn_round f x y z))))
      b a (subst (IsNext b a) (closed_map r S) (next_back a b (map (moved_at r) S) n)) c (in_run_back c (map (moved_at r) S) i) na nb;
}
  where
    weight : (x : Homogeneous) → x ∈ closed S → pos 0 <ℤ x.weight
    weight x i = (h.vertices x (in_closed x S i)).0.inside.weight

-- ---- by numbers
numbers_map : (r : Motion) (V : List Homogeneous) (ns : List ℕ) → map (λ k. slice_get (map (moved_at r) V) k) ns ≡ map (option_map (moved_at r)) (map (λ k. slice_get V k) ns)
numbers_map r V [] = refl
numbers_map r V (n ∷ ns) = (λ i. get_map (moved_at r) V n i ∷ numbers_map r V ns i)

some_map : (r : Motion) (ps : List Homogeneous) → map (option_map (moved_at r)) (map Some ps) ≡ map Some (map (moved_at r) ps)
some_map r [] = refl
some_map r (p ∷ ps) = ap (λ l. Some (moved_at r p) ∷ l) (some_map r ps)

picked_onto : (r : Motion) (V ps : List Homogeneous) (ns : List ℕ) → map (λ k. slice_get V k) ns ≡ map Some ps → map (λ k. slice_get (map (moved_at r) V) k) ns ≡ map Some (map (moved_at r) ps)
picked_onto r V ps ns e = numbers_map r V ns ∙ ap (map (option_map (moved_at r))) e ∙ some_map r ps

numbered_onto : (r : Motion) (F : List HalfSpace) (f : HalfSpace) (V : List Homogeneous) (ns : List ℕ) → IsTurn r.matrix → Sign r.matrix false → IsNumberedLoop F f V ns →
    IsNumberedLoop (moved_list r F) (moved_half r f) (map (moved_at r) V) ns
numbered_onto r F f V ns t s h = record {
  points = map (moved_at r) h.points;
  picked = picked_onto r V h.points ns h.picked;
  is_loop = loop_onto r F f h.points t s h.is_loop;
  least_first = h.least_first;
}

numbered_round : (r : Motion) (F : List HalfSpace) (f : HalfSpace) (V : List Homogeneous) (ns : List ℕ) → IsTurn r.matrix → Sign r.matrix true → IsNumberedLoop F f V ns →
    IsNumberedLoop (moved_list r F) (moved_half r f) (map (moved_at r) V) (run_back ns)
numbered_round r F f V ns t s h = record {
  points = run_back (map (moved_at r) h.points);
  picked = map_run_back (λ k. slice_get (map (moved_at r) V) k) ns ∙ ap run_back (picked_onto r V h.points ns h.picked) ∙ sym (map_run_back Some (map (moved_at r) h.points));
  is_loop = loop_round r F f h.points t s h.is_loop;
  least_first = least_run_back ns h.least_first;
}

pub loops_is : LoopsMovedLaw
loops_is r F t = record {
  kept = λ e f S h. loop_onto r F f S t (sign_kept r.matrix t e) h;
  turned_round = λ e f S h. loop_round r F f S t (sign_flip r.matrix e) h;
  numbers_kept = λ e f V ns h. numbered_onto r F f V ns t (sign_kept r.matrix t e) h;
  numbers_turned_round = λ e f V ns h. numbered_round r F f V ns t (sign_flip r.matrix e) h;
}
