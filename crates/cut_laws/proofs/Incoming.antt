-- Each vertex on a face that bears has a half-edge that leads to it.
use Rattle.std.proofs.Common.{◌≡◌, List, [], ◌∷◌, ap, sym, ◌∙◌, arith, ⊎_elim, ℤ, pos, negsuc, ◌+ℤ◌, ◌-ℤ◌, ◌*ℤ◌, neg_ℤ, ◌<ℤ◌, ◌≤ℤ◌}
use Rattle.std.proofs.lemmas.Int.{ints, by_lt_z}
use Rattle.algebra.specs.Members.{◌∈◌}
use Rattle.algebra.specs.Space.{Vector, Homogeneous, HalfSpace, dot, cross, side, go, way}
use Rattle.algebra.proofs.Expr.{read}
use Rattle.algebra.proofs.Ring.{ring}
use Rattle.algebra.proofs.Orders.{le_by, le_gap, eq_by_2, cancel-le_left, positive-mul, positive-neg, negative-mul}
use Rattle.algebra.proofs.Identities.{with_vector, dot_comm, side-go, dot-way, dot-way_go, dot-cross_left}
use Rattle.algebra.proofs.Vectors.{nonzero, cross_nonzero, across}
use Rattle.algebra.proofs.Points.{way-on}
use Rattle.algebra.proofs.Fractions.{greatest}
use Rattle.trim_laws.specs.Solid.{Bounded}
use Rattle.trim_laws.specs.Trim.{Bears}
use Rattle.trim_laws.proofs.SameHalfSpace.{same_flat}
use Rattle.vertex_laws.specs.Vertex.{IsVertex, Crosses}
use Rattle.vertex_laws.specs.HalfEdge.{IsHalfEdge}
use Rattle.vertex_laws.proofs.Line.{Leans, up, down, leaning}
use Rattle.vertex_laws.proofs.Run.{run, stuck_plain, positive_or_zero}
use Rattle.vertex_laws.proofs.Tight.{tight}
use Rattle.vertex_laws.proofs.TwoFaces.{twin}
use Rattle.cut_laws.specs.Cut.{Incoming}
use Rattle.cut_laws.specs.Laws.{IncomingLaw}

-- The inner point is behind a face through a vertex in whose plane some direction of f is not.
leans_behind : (F : List HalfSpace) (f k : HalfSpace) (a : Homogeneous) (m : Vector) → pos 0 <ℤ dot f.normal f.normal → (e : Bears F f) → k ∈ F →
    pos 0 <ℤ a.weight → side f a ≡ pos 0 → dot f.normal m ≡ pos 0 → Leans k.normal m → side k e.at <ℤ pos 0
leans_behind F f k a m r e i w h z l = e.others k i (λ s. never (same_flat f k a m s r w h z) l)
  where
    never : dot k.normal m ≡ pos 0 → Leans k.normal m → ⊥
    never y (up d) = absurd (omega (arith, ints))
    never y (down d) = absurd (omega (arith, ints))

rotate : (f g h q : Vector) → dot q q *ℤ dot h (cross f g) ≡ (dot h (cross f q) *ℤ dot g q -ℤ dot g (cross f q) *ℤ dot h q) +ℤ dot f q *ℤ dot (cross g h) q
unfolding dot cross
rotate f g h q = ring (with_vector f (with_vector g (with_vector h (with_vector q [])))) (search read depth 20) tt

rotate_plain : (k x a b z y : ℤ) → pos 0 <ℤ k → z ≡ pos 0 → a ≤ℤ b → k *ℤ x ≡ (a -ℤ b) +ℤ z *ℤ y → x ≤ℤ pos 0
rotate_plain k x a b z y h e l p = cancel-le_left k h (le_by (b -ℤ a) (le_gap l) (eq_by_2 (negsuc 0) (neg_ℤ y) p e (ring (k ∷ x ∷ a ∷ b ∷ z ∷ y ∷ []) (search read depth 20) tt)))

-- Seen from the inner point q before a.
to_inner : (k : HalfSpace) (a q : Homogeneous) → side k a ≡ pos 0 → dot k.normal (way q a) ≡ neg_ℤ (a.weight *ℤ side k q)
to_inner k a q z = dot-way k q a ∙ ap (λ x. q.weight *ℤ x -ℤ a.weight *ℤ side k q) z ∙ ring (q.weight ∷ a.weight ∷ side k q ∷ []) (search read depth 20) tt

toward : (k : HalfSpace) (a q : Homogeneous) → pos 0 <ℤ a.weight → side k a ≡ pos 0 → side k q <ℤ pos 0 → pos 0 <ℤ dot k.normal (way q a)
toward k a q w z l = rw (to_inner k a q z) (positive-neg (negative-mul a.weight w l))

toward_back : (k : HalfSpace) (a q : Homogeneous) → pos 0 <ℤ a.weight → side k a ≡ pos 0 → dot k.normal (way q a) ≤ℤ pos 0 → pos 0 ≤ℤ side k q
toward_back k a q w z l = by_lt_z (side k q) (pos 0) (λ m. let n = toward k a q w z m in absurd (omega (arith, ints))) (λ m. m)

-- g is the face from which the way turns: along it no face through a is ahead.
last_face : (F : List HalfSpace) (f g : HalfSpace) (a : Homogeneous) → Bounded F → f ∈ F → IsVertex F a → side f a ≡ pos 0 → g ∈ F →
    side g a ≡ pos 0 → Crosses f g → ((k : HalfSpace) → k ∈ F → side k a ≡ pos 0 → dot k.normal (cross f.normal g.normal) ≤ℤ pos 0) → Incoming F f a
last_face F f g a b m u z n y c all =
    let h = run F f g a b u.inside m n z y c in ⊎_elim
    (λ t. let k = all h.face h.among (stuck_plain h.q h.t (side h.face a) (dot h.face.normal (cross f.normal g.normal)) h.q_positive t (sym (side-go h.q h.t a (cross f.normal g.normal) h.face) ∙ h.on_face)) in
    let l = h.ahead in absurd (omega (arith, ints)))
    (λ t.
    let e : IsHalfEdge F g f a (go h.q h.t a (cross f.normal g.normal)) = record {
      a_vertex = u;
      b_vertex = h.vertex;
      f_in = n;
      g_in = m;
      a_on_f = y;
      a_on_g = z;
      b_on_f = h.on_g;
      b_on_g = h.on_f;
      ahead = rw dot-way_go (positive-mul (positive-mul u.inside.weight t) c);
    } in
    record { g = g; b = go h.q h.t a (cross f.normal g.normal); edge = twin F g f a (go h.q h.t a (cross f.normal g.normal)) e })
    (positive_or_zero h.t h.t_nonneg)

no_more : {A : Type 0} {x : ℤ} → x ≤ℤ pos 0 → pos 0 <ℤ x → A
no_more {A} {x} h k = absurd (omega (arith, ints))

pub incoming : IncomingLaw
incoming F f a b r m e u z =
    let q = way e.at a in
    let t = tight F a u.inside in
    let w = u.inside.weight in
    let c = across f.normal f.normal in
    let l = leaning F a c.way u c.some in
    let first : pos 0 <ℤ dot l.face.normal q = toward l.face a e.at w l.on (leans_behind F f l.face a c.way (r f m) e l.among w z c.flat l.leans) in
    let flat : dot f.normal q ≡ pos 0 = way-on f e.at a e.on z in
    let some : pos 0 <ℤ dot q q = nonzero q l.face.normal (rw dot_comm first) in
    ⊎_elim (λ none. no_more (none l.face (t.all l.face l.among l.on)) first)
    (λ g.
    let o = t.only g.it g.among in
    last_face F f g.it a b m u z o.0 o.1 (cross_nonzero f.normal g.it.normal q flat (r f m) g.ahead)
    (λ k i y. by_lt_z (pos 0) (dot k.normal q)
    (λ s. rotate_plain (dot q q) (dot k.normal (cross f.normal g.it.normal)) (dot k.normal (cross f.normal q) *ℤ dot g.it.normal q) (dot g.it.normal (cross f.normal q) *ℤ dot k.normal q) (dot f.normal q) (dot (cross g.it.normal k.normal) q) some flat (g.above k (t.all k i y) s).le (rotate f.normal g.it.normal k.normal q))
    (λ s. by_lt_z (pos 0) (dot k.normal (cross f.normal g.it.normal))
    (λ d. let x = leans_behind F f k a (cross f.normal g.it.normal) (r f m) e i w z (dot-cross_left f.normal g.it.normal) (up d) in
    let v = toward_back k a e.at w y s in absurd (omega (arith, ints)))
    (λ d. d))))
    (greatest (λ (k : HalfSpace). dot k.normal (cross f.normal q)) (λ k. dot k.normal q) t.faces)
