-- The half-edges of a face: their turns, and that each vertex has one.
use Rattle.std.proofs.Common.{◌≡◌, List, [], ◌∷◌, ap, sym, ◌∙◌, arith, ◌⊎◌, inl, inr, ⊎_elim, ℤ, pos, negsuc, ◌+ℤ◌, ◌-ℤ◌, ◌*ℤ◌, neg_ℤ, ◌<ℤ◌, ◌≤ℤ◌}
use Rattle.std.proofs.lemmas.Int.{ints, by_lt_z}
use Rattle.algebra.specs.Members.{◌∈◌}
use Rattle.algebra.specs.Space.{Vector, Homogeneous, HalfSpace, SamePoint, dot, cross, scale, minus, side, go, way}
use Rattle.algebra.proofs.Expr.{read}
use Rattle.algebra.proofs.Ring.{ring}
use Rattle.algebra.proofs.Orders.{signs, le_by, eq_by, eq_by_2, positive-mul, negative-mul, positive-neg, cancel-le_left, positive_of_product, le_gap}
use Rattle.algebra.proofs.Identities.{with_vector, with_half_space, with_point, dot_comm, dot-cross_right, norm-cross_swap, side-go, dot-way, dot-way_go}
use Rattle.algebra.proofs.Vectors.{nonzero, cross_nonzero, across}
use Rattle.algebra.proofs.Points.{way-on, along, same_point_sym}
use Rattle.algebra.proofs.Fractions.{greatest}
use Rattle.trim_laws.specs.Solid.{Proper, Bounded}
use Rattle.trim_laws.specs.Trim.{Bears}
use Rattle.trim_laws.proofs.SameHalfSpace.{dot-way_on, same_flat}
use Rattle.vertex_laws.specs.Vertex.{IsVertex, Crosses}
use Rattle.vertex_laws.specs.HalfEdge.{IsHalfEdge, turn, Outgoing}
use Rattle.vertex_laws.specs.Laws.{TurnLaw, OutgoingLaw, OneOutgoingLaw}
use Rattle.vertex_laws.proofs.Line.{Leans, up, down, leaning, same_norm, third_end}
use Rattle.vertex_laws.proofs.Tight.{tight}
use Rattle.vertex_laws.proofs.Run.{run, positive_or_zero, stuck_plain}

-- ---- the turn at a half-edge
pub turn-line : (f g x : Vector) → dot (cross x f) (cross g f) ≡ dot x g *ℤ dot f f -ℤ dot x f *ℤ dot f g
unfolding dot cross
turn-line f g x = ring (with_vector f (with_vector g (with_vector x []))) (search read depth 20) tt

pub turn-way : (f : HalfSpace) (a b c : Homogeneous) → turn f a b c ≡ neg_ℤ (dot (cross (way b c) f.normal) (way a b))
unfolding turn dot cross way minus scale
turn-way f a b c = ring (with_point a (with_point b (with_point c (with_half_space f [])))) (search read depth 20) tt

turn_plain : (k e x g f y : ℤ) → pos 0 <ℤ k → pos 0 <ℤ e → g <ℤ pos 0 → pos 0 <ℤ f → k *ℤ x ≡ y *ℤ e → y ≡ g *ℤ f → pos 0 <ℤ neg_ℤ x
turn_plain k e x g f y hk he hg hf p q =
    let z : k *ℤ neg_ℤ x ≡ (pos 0 -ℤ g) *ℤ f *ℤ e = eq_by_2 (negsuc 0) (neg_ℤ e) p q (ring (k ∷ x ∷ g ∷ f ∷ e ∷ y ∷ []) (search read depth 20) tt) in
    positive_of_product k hk (rw z (search signs))

pub zero_out : (g f z h : ℤ) → z ≡ pos 0 → g *ℤ f -ℤ z *ℤ h ≡ g *ℤ f
zero_out g f z h e = eq_by (neg_ℤ h) e (ring (g ∷ f ∷ z ∷ h ∷ []) (search read depth 20) tt)

pub turns : TurnLaw
turns F f g a b c e r z l =
    let x = way b c in
    let k : pos 0 <ℤ dot (cross g.normal f.normal) (cross g.normal f.normal) = nonzero (cross g.normal f.normal) (way a b) e.ahead in
    let y : dot x f.normal ≡ pos 0 = rw dot_comm (way-on f b c e.b_on_f z) in
    let w : dot x g.normal ≡ b.weight *ℤ side g c = rw dot_comm (dot-way_on g b c e.b_on_g) in
    let d : dot x g.normal <ℤ pos 0 = rw w (negative-mul b.weight e.b_vertex.inside.weight l) in
    let p = along g.normal f.normal (cross x f.normal) (way a b) (way-on g a b e.a_on_g e.b_on_g) (way-on f a b e.a_on_f e.b_on_f) in
    let q = turn-line f.normal g.normal x ∙ zero_out (dot x g.normal) (dot f.normal f.normal) (dot x f.normal) (dot f.normal g.normal) y in
    rw turn-way (turn_plain (dot (cross g.normal f.normal) (cross g.normal f.normal)) (dot (cross g.normal f.normal) (way a b)) (dot (cross x f.normal) (way a b)) (dot x g.normal) (dot f.normal f.normal) (dot (cross x f.normal) (cross g.normal f.normal)) k e.ahead d r p q)

-- ---- only one half-edge from a vertex on a face
pub turn-swap : (f : HalfSpace) (a b c : Homogeneous) → c.weight *ℤ turn f a b c ≡ neg_ℤ (b.weight *ℤ turn f a c b)
unfolding turn dot cross way minus scale
turn-swap f a b c = ring (with_point a (with_point b (with_point c (with_half_space f [])))) (search read depth 20) tt

opposite : {A : Type 0} (v w s t : ℤ) → pos 0 <ℤ v → pos 0 <ℤ w → pos 0 <ℤ s → pos 0 <ℤ t → v *ℤ s ≡ neg_ℤ (w *ℤ t) → A
opposite {A} v w s t h k l m e = let x = positive-mul h l in let y = positive-mul k m in absurd (omega (arith, ints))

pub edge_crosses : {F : List HalfSpace} {f g : HalfSpace} {a b : Homogeneous} → IsHalfEdge F f g a b → Crosses f g
edge_crosses {F} {f} {g} {a} {b} e = rw norm-cross_swap (nonzero (cross g.normal f.normal) (way a b) e.ahead)

pub edge_distinct : {F : List HalfSpace} {f g : HalfSpace} {a b : Homogeneous} → IsHalfEdge F f g a b → ¬ (SamePoint a b)
edge_distinct {F} {f} {g} {a} {b} e s =
    let z = same_norm a b s in
    let k : pos 0 <ℤ dot (way a b) (way a b) = nonzero (way a b) (cross g.normal f.normal) (rw dot_comm e.ahead) in absurd (omega (arith, ints))

-- The end of the other half-edge is on this one's line or behind it.
on_or_behind : (F : List HalfSpace) (f g h : HalfSpace) (a b c : Homogeneous) → IsHalfEdge F f g a b → IsHalfEdge F f h a c → SamePoint b c ⊎ (side g c <ℤ pos 0)
on_or_behind F f g h a b c e d = by_lt_z (side g c) (pos 0) (λ l. inr l)
    (λ l. let k = d.b_vertex.inside.all g e.g_in in let z : side g c ≡ pos 0 = omega (arith, ints) in
    ⊎_elim (λ s. absurd (edge_distinct d (same_point_sym s))) (λ s. inl (same_point_sym s))
    (third_end F f g a b c (edge_crosses e) (record { on_f = e.a_on_f; on_g = e.a_on_g }) (record { on_f = e.b_on_f; on_g = e.b_on_g }) (record { on_f = d.b_on_f; on_g = z }) e.a_vertex e.b_vertex d.b_vertex (edge_distinct e)))

pub one_outgoing : OneOutgoingLaw
one_outgoing F f g h a b c r e d = ⊎_elim (λ s. s) (λ l. ⊎_elim (λ s. same_point_sym s)
    (λ m. opposite c.weight b.weight (turn f a b c) (turn f a c b) d.b_vertex.inside.weight e.b_vertex.inside.weight
    (turns F f g a b c e r d.b_on_f l) (turns F f h a c b d r e.b_on_f m) (turn-swap f a b c))
    (on_or_behind F f h g a c b d e)) (on_or_behind F f g h a b c e d)

-- ---- each vertex of a face that bears has a half-edge
-- The inner point is behind a face through a vertex in whose plane some direction of f is not.
leans_behind : (F : List HalfSpace) (f k : HalfSpace) (a : Homogeneous) (m : Vector) → pos 0 <ℤ dot f.normal f.normal → (e : Bears F f) → k ∈ F →
    pos 0 <ℤ a.weight → side f a ≡ pos 0 → dot f.normal m ≡ pos 0 → Leans k.normal m → side k e.at <ℤ pos 0
leans_behind F f k a m r e i w h z l = e.others k i (λ s. never (same_flat f k a m s r w h z) l)
  where
    never : dot k.normal m ≡ pos 0 → Leans k.normal m → ⊥
    never y (up d) = absurd (omega (arith, ints))
    never y (down d) = absurd (omega (arith, ints))

rotate : (f g h q : Vector) → dot q q *ℤ dot h (cross g f) ≡ (dot h (cross q f) *ℤ dot g q -ℤ dot g (cross q f) *ℤ dot h q) +ℤ dot f q *ℤ dot (cross h g) q
unfolding dot cross
rotate f g h q = ring (with_vector f (with_vector g (with_vector h (with_vector q [])))) (search read depth 20) tt

rotate_plain : (k x a b z y : ℤ) → pos 0 <ℤ k → z ≡ pos 0 → a ≤ℤ b → k *ℤ x ≡ (a -ℤ b) +ℤ z *ℤ y → x ≤ℤ pos 0
rotate_plain k x a b z y h e l p = cancel-le_left k h (le_by (b -ℤ a) (le_gap l) (eq_by_2 (negsuc 0) (neg_ℤ y) p e (ring (k ∷ x ∷ a ∷ b ∷ z ∷ y ∷ []) (search read depth 20) tt)))

-- Seen from the inner point q before a.
to_inner : (k : HalfSpace) (a q : Homogeneous) → side k a ≡ pos 0 → dot k.normal (way q a) ≡ neg_ℤ (a.weight *ℤ side k q)
to_inner k a q z = dot-way k q a ∙ ap (λ x. q.weight *ℤ x -ℤ a.weight *ℤ side k q) z ∙ ring (q.weight ∷ a.weight ∷ side k q ∷ []) (search read depth 20) tt

toward : (k : HalfSpace) (a q : Homogeneous) → pos 0 <ℤ a.weight → side k a ≡ pos 0 → side k q <ℤ pos 0 → pos 0 <ℤ dot k.normal (way q a)
toward k a q w z l = rw (to_inner k a q z) (positive-neg (negative-mul a.weight w l))

toward_back : (k : HalfSpace) (a q : Homogeneous) → pos 0 <ℤ a.weight → side k a ≡ pos 0 → dot k.normal (way q a) ≤ℤ pos 0 → pos 0 ≤ℤ side k q
toward_back k a q w z l = by_lt_z (side k q) (pos 0) (λ m. let n = toward k a q w z m in absurd (omega (arith, ints))) (λ m. m)

-- g is the face to which the way turns: along it no face through a is ahead.
next_face : (F : List HalfSpace) (f g : HalfSpace) (a : Homogeneous) → Bounded F → Proper F → f ∈ F → Bears F f → IsVertex F a → side f a ≡ pos 0 → g ∈ F →
    side g a ≡ pos 0 → Crosses g f → ((k : HalfSpace) → k ∈ F → side k a ≡ pos 0 → dot k.normal (cross g.normal f.normal) ≤ℤ pos 0) → Outgoing F f a
next_face F f g a b r m e u z n y c all =
    let h = run F g f a b u.inside n m y z c in ⊎_elim
    (λ t. let k = all h.face h.among (stuck_plain h.q h.t (side h.face a) (dot h.face.normal (cross g.normal f.normal)) h.q_positive t (sym (side-go h.q h.t a (cross g.normal f.normal) h.face) ∙ h.on_face)) in
    let l = h.ahead in absurd (omega (arith, ints)))
    (λ t. record {
      g = g;
      b = go h.q h.t a (cross g.normal f.normal);
      edge = record {
        a_vertex = u;
        b_vertex = h.vertex;
        f_in = m;
        g_in = n;
        a_on_f = z;
        a_on_g = y;
        b_on_f = h.on_g;
        b_on_g = h.on_f;
        ahead = rw dot-way_go (positive-mul (positive-mul u.inside.weight t) c);
      };
    })
    (positive_or_zero h.t h.t_nonneg)

no_more : {A : Type 0} {x : ℤ} → x ≤ℤ pos 0 → pos 0 <ℤ x → A
no_more {A} {x} h k = absurd (omega (arith, ints))

pub outgoing : OutgoingLaw
outgoing F f a b r m e u z =
    let q = way e.at a in
    let t = tight F a u.inside in
    let w = u.inside.weight in
    let c = across f.normal f.normal in
    let l = leaning F a c.way u c.some in
    let first : pos 0 <ℤ dot l.face.normal q = toward l.face a e.at w l.on (leans_behind F f l.face a c.way (r f m) e l.among w z c.flat l.leans) in
    let flat : dot f.normal q ≡ pos 0 = way-on f e.at a e.on z in
    let some : pos 0 <ℤ dot q q = nonzero q l.face.normal (rw dot_comm first) in
    ⊎_elim (λ none. no_more (none l.face (t.all l.face l.among l.on)) first)
    (λ g.
    let o = t.only g.it g.among in
    next_face F f g.it a b r m e u z o.0 o.1 (rw norm-cross_swap (cross_nonzero f.normal g.it.normal q flat (r f m) g.ahead))
    (λ k i y. by_lt_z (pos 0) (dot k.normal q)
    (λ s. rotate_plain (dot q q) (dot k.normal (cross g.it.normal f.normal)) (dot k.normal (cross q f.normal) *ℤ dot g.it.normal q) (dot g.it.normal (cross q f.normal) *ℤ dot k.normal q) (dot f.normal q) (dot (cross k.normal g.it.normal) q) some flat (g.above k (t.all k i y) s).le (rotate f.normal g.it.normal k.normal q))
    (λ s. by_lt_z (pos 0) (dot k.normal (cross g.it.normal f.normal))
    (λ d. let x = leans_behind F f k a (cross g.it.normal f.normal) (r f m) e i w z (dot-cross_right g.it.normal f.normal) (up d) in
    let v = toward_back k a e.at w y s in absurd (omega (arith, ints)))
    (λ d. d))))
    (greatest (λ (k : HalfSpace). dot k.normal (cross q f.normal)) (λ k. dot k.normal q) t.faces)
