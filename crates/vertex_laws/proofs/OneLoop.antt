-- The half-edges of a face are one loop.
use Rattle.std.proofs.Common.{◌≡◌, List, [], ◌∷◌, arith, ◌⊎◌, inl, inr, ⊎_elim, ℤ, pos, ◌+ℤ◌, ◌-ℤ◌, ◌*ℤ◌, neg_ℤ, ◌<ℤ◌, ◌≤ℤ◌}
use Rattle.std.proofs.lemmas.Int.{ints, by_lt_z}
use Rattle.algebra.specs.Members.{◌∈◌}
use Rattle.algebra.specs.Fractions.{Fraction≤, Greatest}
use Rattle.algebra.specs.Space.{Vector, Homogeneous, HalfSpace, SamePoint, dot, cross, det, scale, minus, side, way}
use Rattle.algebra.proofs.Expr.{read}
use Rattle.algebra.proofs.Ring.{ring}
use Rattle.algebra.proofs.Orders.{signs, le_by, lt_by, eq_by, eq_by_2, positive-mul, cancel-le_left, positive_of_product, le_gap}
use Rattle.algebra.proofs.Identities.{with_vector, with_half_space, with_point, dot_comm, dot-way, side-same}
use Rattle.algebra.proofs.Points.{way-on, same_point_sym, same-on}
use Rattle.algebra.proofs.Fractions.{greatest}
use Rattle.trim_laws.specs.Solid.{Proper}
use Rattle.vertex_laws.specs.Vertex.{IsVertex}
use Rattle.vertex_laws.specs.HalfEdge.{IsHalfEdge, turn, Outgoing, From, To, IsAmong}
use Rattle.vertex_laws.specs.Laws.{OneIncomingLaw, OneLoopLaw}
use Rattle.vertex_laws.proofs.Line.{same_vertex, third_end}
use Rattle.vertex_laws.proofs.HalfEdge.{turns, outgoing, edge_crosses, edge_distinct}
use Rattle.vertex_laws.proofs.TwoFaces.{det_zero}

-- ---- only one half-edge to a vertex on a face
turn-back : (f : HalfSpace) (a b c : Homogeneous) → turn f a b c ≡ neg_ℤ (turn f c b a)
unfolding turn dot cross way minus scale
turn-back f a b c = ring (with_point a (with_point b (with_point c (with_half_space f [])))) (search read depth 20) tt

clash_turns : {A : Type 0} {s t : ℤ} → pos 0 <ℤ s → pos 0 <ℤ t → s ≡ neg_ℤ t → A
clash_turns {A} {s} {t} h k e = absurd (omega (arith, ints))

-- A vertex of the face is an end of the half-edge or behind its other face.
pub end_or_behind : (F : List HalfSpace) (f g : HalfSpace) (a b c : Homogeneous) → IsHalfEdge F f g a b → IsVertex F c → side f c ≡ pos 0 →
    SamePoint c a ⊎ (SamePoint c b ⊎ (side g c <ℤ pos 0))
end_or_behind F f g a b c e u z = by_lt_z (side g c) (pos 0) (λ l. inr (inr l))
    (λ l. let k = u.inside.all g e.g_in in let y : side g c ≡ pos 0 = omega (arith, ints) in ⊎_elim (λ s. inl s) (λ s. inr (inl s))
    (third_end F f g a b c (edge_crosses e) (record { on_f = e.a_on_f; on_g = e.a_on_g }) (record { on_f = e.b_on_f; on_g = e.b_on_g }) (record { on_f = z; on_g = y }) e.a_vertex e.b_vertex u (edge_distinct e)))

pub one_incoming : OneIncomingLaw
one_incoming F f g h a c b r e d = ⊎_elim (λ s. s) (λ i. ⊎_elim (λ s. absurd (edge_distinct d s)) (λ l.
    ⊎_elim (λ s. same_point_sym s) (λ j. ⊎_elim (λ s. absurd (edge_distinct e s)) (λ m.
    clash_turns (turns F f g a b c e r d.a_on_f l) (turns F f h c b a d r e.a_on_f m) (turn-back f a b c)) j)
    (end_or_behind F f h c b a d e.a_vertex e.a_on_f)) i)
    (end_or_behind F f g a b c e d.a_vertex d.a_on_f)

-- ---- an equal end
abbrev plane_across : Vector → HalfSpace
plane_across k = record { normal = k; distance = pos 0 }

ahead_same_plain : (a w b p q r : ℤ) → pos 0 <ℤ b → pos 0 <ℤ w → q *ℤ b ≡ r *ℤ w → pos 0 <ℤ (a *ℤ r -ℤ b *ℤ p) → pos 0 <ℤ (a *ℤ q -ℤ w *ℤ p)
ahead_same_plain a w b p q r hb hw e h =
    let z : b *ℤ (a *ℤ q -ℤ w *ℤ p) ≡ w *ℤ (a *ℤ r -ℤ b *ℤ p) = eq_by a e (ring (a ∷ w ∷ b ∷ p ∷ q ∷ r ∷ []) (search read depth 20) tt) in
    positive_of_product b hb (rw z (positive-mul hw h))

ahead_same : (k : Vector) (a b w : Homogeneous) → pos 0 <ℤ w.weight → pos 0 <ℤ b.weight → SamePoint w b → pos 0 <ℤ dot k (way a b) → pos 0 <ℤ dot k (way a w)
ahead_same k a b w x y s h = rw (dot-way (plane_across k) a w) (ahead_same_plain a.weight w.weight b.weight (side (plane_across k) a) (side (plane_across k) w) (side (plane_across k) b) y x (side-same (plane_across k) w b s) (rw (dot-way (plane_across k) a b) at h))

pub same_half_edge : (F : List HalfSpace) (f g : HalfSpace) (a b w : Homogeneous) → IsHalfEdge F f g a b → pos 0 <ℤ w.weight → SamePoint w b → IsHalfEdge F f g a w
same_half_edge F f g a b w e x s = let y = e.b_vertex.inside.weight in record {
  a_vertex = e.a_vertex;
  b_vertex = same_vertex F w b x s e.b_vertex;
  f_in = e.f_in;
  g_in = e.g_in;
  a_on_f = e.a_on_f;
  a_on_g = e.a_on_g;
  b_on_f = same-on f b w y (same_point_sym s) e.b_on_f;
  b_on_g = same-on g b w y (same_point_sym s) e.b_on_g;
  ahead = ahead_same (cross g.normal f.normal) a b w x y s e.ahead;
}

turn-last : (f : HalfSpace) (v b c : Homogeneous) → turn f v b c ≡ dot (cross f.normal (way b v)) (way b c)
unfolding turn dot cross way minus scale
turn-last f v b c = ring (with_point v (with_point b (with_point c (with_half_space f [])))) (search read depth 20) tt

turn_same : (f : HalfSpace) (v b a c : Homogeneous) → pos 0 <ℤ a.weight → pos 0 <ℤ c.weight → SamePoint a c → pos 0 <ℤ turn f v b c → pos 0 <ℤ turn f v b a
turn_same f v b a c x y s h = rw turn-last (ahead_same (cross f.normal (way b v)) b c a x y s (rw turn-last at h))

-- ---- the point of S that comes nearest to a half-edge from outside S
turn-cycle : (f : HalfSpace) (b c v : Homogeneous) → c.weight *ℤ turn f v b c ≡ b.weight *ℤ turn f b c v
unfolding turn dot cross way minus scale
turn-cycle f b c v = ring (with_point b (with_point c (with_point v (with_half_space f [])))) (search read depth 20) tt

turn_cycle : (f : HalfSpace) (b c v : Homogeneous) → pos 0 <ℤ b.weight → pos 0 <ℤ c.weight → pos 0 <ℤ turn f b c v → pos 0 <ℤ turn f v b c
turn_cycle f b c v x y h = positive_of_product c.weight y (rw turn-cycle (positive-mul x h))

cone : (x y z n g : Vector) → det x y z *ℤ dot n g ≡ dot (cross x y) n *ℤ dot z g -ℤ (dot (cross z y) n *ℤ dot x g +ℤ dot (cross x z) n *ℤ dot y g)
unfolding det dot cross
cone x y z n g = ring (with_vector x (with_vector y (with_vector z (with_vector n (with_vector g []))))) (search read depth 30) tt

cone-turns : (f : HalfSpace) (a b c v : Homogeneous) (g : Vector) →
    det (way b a) (way b c) (way b v) *ℤ dot f.normal g ≡ turn f a b c *ℤ dot (way b v) g -ℤ (turn f v b c *ℤ dot (way b a) g +ℤ turn f a b v *ℤ dot (way b c) g)
unfolding turn
cone-turns f a b c v g = cone (way b a) (way b c) (way b v) f.normal g

cone_plain : (d n t z u x s y : ℤ) → d ≡ pos 0 → d *ℤ n ≡ t *ℤ z -ℤ (u *ℤ x +ℤ s *ℤ y) → pos 0 <ℤ u → pos 0 <ℤ s → x ≤ℤ pos 0 → y ≤ℤ pos 0 → pos 0 <ℤ z → t ≤ℤ pos 0
cone_plain d n t z u x s y h e hu hs hx hy hz =
    cancel-le_left z hz (le_by (u *ℤ (pos 0 -ℤ x) +ℤ s *ℤ (pos 0 -ℤ y)) (search signs) (eq_by_2 (pos 1) (neg_ℤ n) e h (ring (d ∷ n ∷ t ∷ z ∷ u ∷ x ∷ s ∷ y ∷ []) (search read depth 20) tt)))

nearer_plain : (b s a t : ℤ) → (s *ℤ b) ≤ℤ (t *ℤ a) → (b *ℤ s -ℤ a *ℤ t) ≤ℤ pos 0
nearer_plain b s a t h = le_by (t *ℤ a -ℤ s *ℤ b) (le_gap h) (ring (b ∷ s ∷ a ∷ t ∷ []) (search read depth 20) tt)

farther_plain : (b s v t : ℤ) → pos 0 <ℤ v → s ≡ pos 0 → t <ℤ pos 0 → pos 0 <ℤ (b *ℤ s -ℤ v *ℤ t)
farther_plain b s v t h z l = lt_by (v *ℤ (pos 0 -ℤ t)) (search signs) (eq_by b z (ring (b ∷ s ∷ v ∷ t ∷ []) (search read depth 20) tt))

nearer : (g : HalfSpace) (b a : Homogeneous) → Fraction≤ (side g a) a.weight (side g b) b.weight → dot (way b a) g.normal ≤ℤ pos 0
nearer g b a f = rw (dot_comm, dot-way) (nearer_plain b.weight (side g a) a.weight (side g b) f.le)

farther : (g : HalfSpace) (b v : Homogeneous) → pos 0 <ℤ v.weight → side g v ≡ pos 0 → side g b <ℤ pos 0 → pos 0 <ℤ dot (way b v) g.normal
farther g b v w z l = rw (dot_comm, dot-way) (farther_plain b.weight (side g v) v.weight (side g b) w z l)

-- b is a point of S on a loop, with the half-edges from a and to c, and v is a vertex with the half-edge to the face g.
turn_flat : (f : HalfSpace) (a b c v : Homogeneous) (g : HalfSpace) → pos 0 <ℤ dot f.normal f.normal → side f a ≡ pos 0 → side f b ≡ pos 0 → side f c ≡ pos 0 →
    side f v ≡ pos 0 → pos 0 <ℤ b.weight → pos 0 <ℤ c.weight → pos 0 <ℤ v.weight → pos 0 <ℤ turn f a b v → pos 0 <ℤ turn f b c v →
    Fraction≤ (side g a) a.weight (side g b) b.weight → Fraction≤ (side g c) c.weight (side g b) b.weight → side g v ≡ pos 0 → side g b <ℤ pos 0 → turn f a b c ≤ℤ pos 0
turn_flat f a b c v g r za zb zc zv wb wc wv s t p q z l =
    let d = det_zero (way b a) (way b c) (way b v) f.normal r (rw dot_comm (way-on f b a zb za)) (rw dot_comm (way-on f b c zb zc)) (rw dot_comm (way-on f b v zb zv)) in
    cone_plain (det (way b a) (way b c) (way b v)) (dot f.normal g.normal) (turn f a b c) (dot (way b v) g.normal) (turn f v b c) (dot (way b a) g.normal) (turn f a b v) (dot (way b c) g.normal)
    d (cone-turns f a b c v g.normal) (turn_cycle f b c v wb wc t) s (nearer g b a p) (nearer g b c q) (farther g b v wv z l)

-- Two half-edges there and back leave no room.
there_and_back : {A : Type 0} (f : HalfSpace) (a b c v : Homogeneous) → pos 0 <ℤ a.weight → pos 0 <ℤ b.weight → pos 0 <ℤ c.weight → SamePoint c a →
    pos 0 <ℤ turn f a b v → pos 0 <ℤ turn f b c v → A
there_and_back f a b c v x y w s h k = clash_turns h (turn_same f v b a c x w (same_point_sym s) (turn_cycle f b c v y w k)) (turn-back f a b v)

no_loop : {A : Type 0} {x : ℤ} → pos 0 <ℤ x → x ≤ℤ pos 0 → A
no_loop {A} {x} h k = absurd (omega (arith, ints))

-- The half-edge from v, and a point b of S that is nearest to its line.
at_nearest : (F : List HalfSpace) (f : HalfSpace) (v : Homogeneous) (S : List Homogeneous) → Proper F → f ∈ F → IsVertex F v → side f v ≡ pos 0 →
    (o : Outgoing F f v) → (b : Greatest (λ (p : Homogeneous). side o.g p) (λ p. p.weight) S) → (i : From F f S b.it) → (j : To F f S b.it) →
    ((s : Homogeneous) → s ∈ S → From F f S s) → IsAmong v S
at_nearest F f v S r m u z o b i j from =
    let w = i.edge.a_vertex.inside.weight in
    let x = j.edge.b_vertex.inside.weight in
    let y = i.edge.b_vertex.inside.weight in ⊎_elim
    (λ s. record { s = i.a; among = i.among; same = s }) (λ k. ⊎_elim
    (λ s. record { s = b.it; among = b.among; same = s }) (λ behind_i. ⊎_elim
    (λ s. record { s = b.it; among = b.among; same = s }) (λ k. ⊎_elim
    (λ s. record { s = j.b; among = j.among; same = s }) (λ behind_j.
    let t1 = turns F f i.g i.a b.it v i.edge (r f m) z behind_i in
    let t2 = turns F f j.g b.it j.b v j.edge (r f m) z behind_j in ⊎_elim
    -- b is on the half-edge from v
    (λ s. record { s = b.it; among = b.among; same = same_point_sym s }) (λ k. ⊎_elim
    (λ s. record { s = i.a; among = i.among; same = same_point_sym (one_incoming F f o.g i.g v i.a o.b (r f m) o.edge (same_half_edge F f i.g i.a b.it o.b i.edge o.edge.b_vertex.inside.weight (same_point_sym s))) })
    (λ l. ⊎_elim
    (λ s. there_and_back f i.a b.it j.b v w y x s t1 t2) (λ k. ⊎_elim
    (λ s. absurd (edge_distinct j.edge (same_point_sym s)))
    (λ d. no_loop (turns F f i.g i.a b.it j.b i.edge (r f m) j.edge.b_on_f d)
    (turn_flat f i.a b.it j.b v o.g (r f m) i.edge.a_on_f i.edge.b_on_f j.edge.b_on_f z y x u.inside.weight t1 t2 (b.above i.a i.among w) (b.above j.b j.among x) o.edge.a_on_g l)) k)
    (end_or_behind F f i.g i.a b.it j.b i.edge j.edge.b_vertex j.edge.b_on_f)) k)
    (end_or_behind F f o.g v o.b b.it o.edge i.edge.b_vertex i.edge.b_on_f)) k)
    (end_or_behind F f j.g b.it j.b v j.edge u z)) k)
    (end_or_behind F f i.g i.a b.it v i.edge u z)

pub one_loop : OneLoopLaw
one_loop F f first v S b r m e n from to u z =
    let o = outgoing F f v b r m e u z in ⊎_elim
    (λ none. no_loop (from first n).edge.b_vertex.inside.weight (none first n))
    (λ g. at_nearest F f v S r m u z o g (from g.it g.among) (to g.it g.among) from)
    (greatest (λ (p : Homogeneous). side o.g p) (λ p. p.weight) S)
