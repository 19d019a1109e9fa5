-- A half-edge and its twin are on two faces and no third.
use Rattle.std.proofs.Common.{◌≡◌, [], ◌∷◌, sym, ◌∙◌, arith, ℤ, pos, ◌+ℤ◌, ◌-ℤ◌, ◌*ℤ◌, neg_ℤ, ◌<ℤ◌}
use Rattle.std.proofs.lemmas.Int.{ints, by_lt_z}
use Rattle.algebra.specs.Space.{Vector, Homogeneous, HalfSpace, dot, cross, det, scale, minus, side, way}
use Rattle.algebra.proofs.Expr.{read}
use Rattle.algebra.proofs.Ring.{ring}
use Rattle.algebra.proofs.Orders.{signs, lt_by, eq_by, eq_by_3, zero_of_product, negative-mul}
use Rattle.algebra.proofs.Identities.{with_vector, with_point, dot_comm, cramer}
use Rattle.algebra.proofs.Vectors.{nonzero}
use Rattle.algebra.proofs.Points.{way-on}
use Rattle.trim_laws.proofs.Steps.{neg_below}
use Rattle.trim_laws.proofs.SameHalfSpace.{dot-way_on, same_sym}
use Rattle.vertex_laws.specs.Laws.{TwinLaw, TwoFacesLaw}

-- ---- twins
pub twin-ahead : (f g : Vector) (a b : Homogeneous) → dot (cross f g) (way b a) ≡ dot (cross g f) (way a b)
unfolding dot cross way minus scale
twin-ahead f g a b = ring (with_vector f (with_vector g (with_point a (with_point b [])))) (search read depth 20) tt

pub twin : TwinLaw
twin F f g a b e = record {
  a_vertex = e.b_vertex;
  b_vertex = e.a_vertex;
  f_in = e.g_in;
  g_in = e.f_in;
  a_on_f = e.b_on_g;
  a_on_g = e.b_on_f;
  b_on_f = e.a_on_g;
  b_on_g = e.a_on_f;
  ahead = rw twin-ahead e.ahead;
}

-- ---- three normals at right angles to one way
all_zero : (k x a b c u v w : ℤ) → pos 0 <ℤ k → a ≡ pos 0 → b ≡ pos 0 → c ≡ pos 0 → x *ℤ k ≡ u *ℤ a +ℤ (v *ℤ b +ℤ w *ℤ c) → x ≡ pos 0
all_zero k x a b c u v w p h i j e =
    let z : u *ℤ a +ℤ (v *ℤ b +ℤ w *ℤ c) ≡ pos 0 = eq_by_3 u v w h i j (ring (a ∷ b ∷ c ∷ u ∷ v ∷ w ∷ []) (search read depth 20) tt) in
    let y : k *ℤ x ≡ x *ℤ k = ring (k ∷ x ∷ []) (search read depth 20) tt in zero_of_product k p (y ∙ e ∙ z)

pub det_zero : (f g h e : Vector) → pos 0 <ℤ dot e e → dot f e ≡ pos 0 → dot g e ≡ pos 0 → dot h e ≡ pos 0 → det f g h ≡ pos 0
det_zero f g h e p a b c = all_zero (dot e e) (det f g h) (dot f e) (dot g e) (dot h e) (det g h e) (det h f e) (det f g e) p a b c (cramer f g h e e)

zero_times : (z y s : ℤ) → z ≡ pos 0 → z *ℤ y ≡ s → s ≡ pos 0
zero_times z y s h e = sym e ∙ eq_by y h (ring (z ∷ y ∷ []) (search read depth 20) tt)

-- At the inner points of the three faces.
second_up : (a b c f g h : ℤ) → c <ℤ pos 0 → f ≡ pos 0 → g <ℤ pos 0 → h <ℤ pos 0 → a *ℤ f +ℤ (b *ℤ g +ℤ c *ℤ h) ≡ pos 0 → pos 0 <ℤ b
second_up a b c f g h m z k l e = by_lt_z (pos 0) b (λ d. d) (λ d.
    let y : a *ℤ f ≡ pos 0 = eq_by a z (ring (a ∷ f ∷ []) (search read depth 20) tt) in
    let x : pos 0 <ℤ (b *ℤ g +ℤ c *ℤ h) = lt_by ((pos 0 -ℤ b) *ℤ (pos 0 -ℤ g) +ℤ (pos 0 -ℤ c) *ℤ (pos 0 -ℤ h)) (search signs) (ring (b ∷ g ∷ c ∷ h ∷ []) (search read depth 20) tt) in absurd (omega (arith, ints)))

first_up : (a b c f g h : ℤ) → c <ℤ pos 0 → f <ℤ pos 0 → g ≡ pos 0 → h <ℤ pos 0 → a *ℤ f +ℤ (b *ℤ g +ℤ c *ℤ h) ≡ pos 0 → pos 0 <ℤ a
first_up a b c f g h m k z l e = second_up b a c g f h m z k l (ring (a ∷ b ∷ c ∷ f ∷ g ∷ h ∷ []) (search read depth 20) tt ∙ e)

both_up : {A : Type 0} (a b c f g h : ℤ) → pos 0 <ℤ a → pos 0 <ℤ b → f <ℤ pos 0 → g <ℤ pos 0 → h ≡ pos 0 → a *ℤ f +ℤ (b *ℤ g +ℤ c *ℤ h) ≡ pos 0 → A
both_up {A} a b c f g h p q k l z e =
    let y : c *ℤ h ≡ pos 0 = eq_by c z (ring (c ∷ h ∷ []) (search read depth 20) tt) in
    let x : pos 0 <ℤ neg_ℤ (a *ℤ f +ℤ b *ℤ g) = lt_by (a *ℤ (pos 0 -ℤ f) +ℤ b *ℤ (pos 0 -ℤ g)) (search signs) (ring (a ∷ f ∷ b ∷ g ∷ []) (search read depth 20) tt) in absurd (omega (arith, ints))

det-ahead : (f g e : Vector) → det f g e ≡ neg_ℤ (dot (cross g f) e)
unfolding det dot cross
det-ahead f g e = ring (with_vector f (with_vector g (with_vector e []))) (search read depth 20) tt

below : (k : HalfSpace) (a q : Homogeneous) → pos 0 <ℤ a.weight → side k a ≡ pos 0 → side k q <ℤ pos 0 → dot k.normal (way a q) <ℤ pos 0
below k a q w z l = rw (dot-way_on k a q z) (negative-mul a.weight w l)

pub two_faces : TwoFacesLaw
two_faces F f g h a b e p q r m x y nfg nfh ngh =
    let d = way a b in
    let w = e.a_vertex.inside.weight in
    let some : pos 0 <ℤ dot d d = nonzero d (cross g.normal f.normal) (rw dot_comm e.ahead) in
    let zero = det_zero f.normal g.normal h.normal d some (way-on f a b e.a_on_f e.b_on_f) (way-on g a b e.a_on_g e.b_on_g) (way-on h a b x y) in
    let all = λ (v : Vector). zero_times (det f.normal g.normal h.normal) (dot d v) (det g.normal h.normal d *ℤ dot f.normal v +ℤ (det h.normal f.normal d *ℤ dot g.normal v +ℤ det f.normal g.normal d *ℤ dot h.normal v)) zero (cramer f.normal g.normal h.normal d v) in
    let c : det f.normal g.normal d <ℤ pos 0 = rw det-ahead (neg_below e.ahead) in
    let s = second_up (det g.normal h.normal d) (det h.normal f.normal d) (det f.normal g.normal d) (dot f.normal (way a p.at)) (dot g.normal (way a p.at)) (dot h.normal (way a p.at)) c
    (way-on f a p.at e.a_on_f p.on) (below g a p.at w e.a_on_g (p.others g e.g_in nfg)) (below h a p.at w x (p.others h m nfh)) (all (way a p.at)) in
    let t = first_up (det g.normal h.normal d) (det h.normal f.normal d) (det f.normal g.normal d) (dot f.normal (way a q.at)) (dot g.normal (way a q.at)) (dot h.normal (way a q.at)) c
    (below f a q.at w e.a_on_f (q.others f e.f_in (λ z. nfg (same_sym z)))) (way-on g a q.at e.a_on_g q.on) (below h a q.at w x (q.others h m ngh)) (all (way a q.at)) in
    both_up (det g.normal h.normal d) (det h.normal f.normal d) (det f.normal g.normal d) (dot f.normal (way a r.at)) (dot g.normal (way a r.at)) (dot h.normal (way a r.at)) t s
    (below f a r.at w e.a_on_f (r.others f e.f_in (λ z. nfh (same_sym z)))) (below g a r.at w e.a_on_g (r.others g e.g_in (λ z. ngh (same_sym z)))) (way-on h a r.at x r.on) (all (way a r.at))
