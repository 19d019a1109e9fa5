-- The vertices of a box are whole, and tell how long its sides are.
use Rattle.std.proofs.Common.{◌≡◌, ◌*◌, List, [], ◌∷◌, ap, sym, subst, ◌∙◌, arith, ◌⊎◌, inl, inr, ⊎_elim, true, ℤ, pos, neg_ℤ, ◌+ℤ◌, ◌-ℤ◌, ◌*ℤ◌, ◌<ℤ◌, ◌≤ℤ◌, unsigned_abs}
use Rattle.std.specs.Int.{◌∣◌}
use Rattle.std.proofs.Math.Nat.{dvd-mul_left}
use Rattle.std.proofs.lemmas.Nat.Gcd.{dvd_refl}
use Rattle.std.proofs.lemmas.Int.{ints, unsigned_abs-mul}
use Rattle.algebra.specs.Members.{◌∈◌, Every}
use Rattle.algebra.specs.Space.{Vector, Homogeneous, HalfSpace, dot, cross, det, side, reverse}
use Rattle.algebra.proofs.Expr.{read}
use Rattle.algebra.proofs.Ring.{ring}
use Rattle.algebra.proofs.Orders.{signs, le_by, eq_by, eq_by_2, eq_by_3, cancel-le_left, by_sign, zero_product}
use Rattle.algebra.proofs.Identities.{with_vector, side-reverse}
use Rattle.algebra.proofs.Points.{scaled_sides}
use Rattle.trim_laws.specs.Solid.{IsIn, Bounded}
use Rattle.vertex_laws.specs.Vertex.{IsVertex}
use Rattle.vertex_laws.proofs.Corner.{corner_below}
use Rattle.solid_laws.specs.Names.{AreVertices}
use Rattle.solid_laws.proofs.Holds.{holds_vertices}
use Rattle.exact_geom.specs.Vertices.{IsReduced}
use Rattle.half_poly.proofs.Listed.{source}
use Rattle.solid_brush.specs.declared.side.Side.{Side}
use Rattle.solid_brush.specs.Sides.{bounds, half_spaces, IsSolid}
use Rattle.csg_ops.specs.Hollows.{is_along_axis, IsShortAlong}
use Rattle.csg_ops.specs.Laws.{AreNear, ShortByVertices, ShortByVerticesLaw}
use Rattle.csg_ops.proofs.Facing.{IsAlong, along_x_by, along_y_by, along_z_by}
use Rattle.csg_ops.proofs.Extents.{Reach, right, far, up, BoxReach, box_reach, bounded}
use Rattle.csg_ops.proofs.ShortSides.{short_along}
use Rattle.csg_ops.proofs.Hollows.{each_along, axes_of_box}

-- ---- a vertex is as far as any point
-- a, v and p, b are a side and a weight of the vertex and of the point; s, w those of the same vertex by other numbers
kept_plain : (a v s w b p : ℤ) → pos 0 <ℤ v → pos 0 <ℤ w → w *ℤ a ≡ v *ℤ s → (a *ℤ p) ≤ℤ (b *ℤ v) → (s *ℤ p) ≤ℤ (b *ℤ w)
kept_plain a v s w b p h k e l = cancel-le_left v h (le_by (w *ℤ (b *ℤ v -ℤ a *ℤ p)) (search signs)
    (eq_by p e (ring (a ∷ v ∷ s ∷ w ∷ b ∷ p ∷ []) (search read depth 20) tt)))

-- A vertex in the list that is at least as far along a normal as a point.
record VertexAbove (V : List Homogeneous) (k : HalfSpace) (p : Homogeneous) : Type 0 where
  at : Homogeneous
  among : at ∈ V
  higher : (side k p *ℤ at.weight) ≤ℤ (side k at *ℤ p.weight)

turned_plain : (s w b p : ℤ) → (neg_ℤ s *ℤ p) ≤ℤ (neg_ℤ b *ℤ w) → (b *ℤ w) ≤ℤ (s *ℤ p)
turned_plain s w b p h = le_by (neg_ℤ b *ℤ w -ℤ neg_ℤ s *ℤ p) (search signs) (ring (s ∷ w ∷ b ∷ p ∷ []) (search read depth 20) tt)

vertex_above : (F : List HalfSpace) (V : List Homogeneous) (k : HalfSpace) (p : Homogeneous) → Bounded F → AreVertices F V → IsIn F p → VertexAbove V k p
vertex_above F V k p b h i =
    let c = corner_below F (reverse k) p b i in
    let holds = holds_vertices F V h in
    let s = holds.all c.at c.vertex in
    let l = kept_plain (side (reverse k) c.at) c.at.weight (side (reverse k) s.s) s.s.weight (side (reverse k) p) p.weight c.vertex.inside.weight (holds.each s.s s.among).inside.weight
    (scaled_sides (reverse k) c.at s.s s.same).is c.lower.le in record {
      at = s.s;
      among = s.among;
      higher = turned_plain (side k s.s) s.s.weight (side k p) p.weight
          (subst (λ n. (n *ℤ p.weight) ≤ℤ (neg_ℤ (side k p) *ℤ s.s.weight)) (side-reverse k s.s) (subst (λ n. (side (reverse k) s.s *ℤ p.weight) ≤ℤ (n *ℤ s.s.weight)) (side-reverse k p) l));
    }

record FarVertex (way : Vector → ℤ) (place : ℤ) (V : List Homogeneous) : Type 0 where
  at : Homogeneous
  among : at ∈ V
  reaches : place ≤ℤ way at.vector

-- The face's plane has n (u - c w) at a point; the point p is on it.
far_plain : (n c u w b p : ℤ) → pos 0 <ℤ n → pos 0 <ℤ p → w ≡ pos 1 → b ≡ pos 0 → (b *ℤ w) ≤ℤ ((n *ℤ (u -ℤ c *ℤ w)) *ℤ p) → c ≤ℤ u
far_plain n c u w b p h k e f l = cancel-le_left (n *ℤ p) (search signs) (le_by ((n *ℤ (u -ℤ c *ℤ w)) *ℤ p -ℤ b *ℤ w) (search signs)
    (eq_by_2 (n *ℤ p *ℤ c) w e f (ring (n ∷ c ∷ u ∷ w ∷ b ∷ p ∷ []) (search read depth 20) tt)))

-- ---- the vertices are whole
record IsPlace (u w : ℤ) : Type 0 where
  place : ℤ
  is : u ≡ place *ℤ w

place_plain : (n u c w s : ℤ) → ¬ (n ≡ pos 0) → s ≡ pos 0 → s ≡ n *ℤ (u -ℤ c *ℤ w) → u ≡ c *ℤ w
place_plain n u c w s h z e = ⊎_elim (λ k. absurd (h k)) (λ k. omega (arith, ints)) (zero_product n (u -ℤ c *ℤ w) (sym e ∙ z))

place_on : (coordinate : Vector → ℤ) (s : Side) (p : Homogeneous) → IsAlong coordinate (pos 0) s → ¬ (coordinate (bounds s).normal ≡ pos 0) → side (bounds s) p ≡ pos 0 → IsPlace (coordinate p.vector) p.weight
place_on coordinate s p a h on = record { place = a.place; is = place_plain (coordinate (bounds s).normal) (coordinate p.vector) a.place p.weight (side (bounds s) p) h on (a.outer p) }

-- One of three planes with independent normals has a part of its normal that isn't 0.
some_part : {P : Type 0} (f g h : ℤ) → ¬ ((f ≡ pos 0) × (g ≡ pos 0) × (h ≡ pos 0)) → (¬ (f ≡ pos 0) → P) → (¬ (g ≡ pos 0) → P) → (¬ (h ≡ pos 0) → P) → P
some_part f g h n p q r = by_sign f (λ l. p (λ e. absurd (omega (arith, ints))))
    (λ e. by_sign g (λ l. q (λ k. absurd (omega (arith, ints))))
    (λ k. by_sign h (λ l. r (λ z. absurd (omega (arith, ints)))) (λ z. absurd (n (e, k, z))) (λ l. r (λ z. absurd (omega (arith, ints)))))
    (λ l. q (λ k. absurd (omega (arith, ints)))))
    (λ l. p (λ e. absurd (omega (arith, ints))))

flat_x : (f g h : Vector) → pos 0 <ℤ det f g h → ¬ ((f.x ≡ pos 0) × (g.x ≡ pos 0) × (h.x ≡ pos 0))
unfolding det dot cross
flat_x f g h l e = let z : f.x *ℤ (g.y *ℤ h.z -ℤ g.z *ℤ h.y) +ℤ f.y *ℤ (g.z *ℤ h.x -ℤ g.x *ℤ h.z) +ℤ f.z *ℤ (g.x *ℤ h.y -ℤ g.y *ℤ h.x) ≡ pos 0 =
    eq_by_3 (g.y *ℤ h.z -ℤ g.z *ℤ h.y) (f.z *ℤ h.y -ℤ f.y *ℤ h.z) (f.y *ℤ g.z -ℤ f.z *ℤ g.y) e.0 e.1 e.2 (ring (with_vector f (with_vector g (with_vector h []))) (search read depth 20) tt) in absurd (omega (arith, ints))

flat_y : (f g h : Vector) → pos 0 <ℤ det f g h → ¬ ((f.y ≡ pos 0) × (g.y ≡ pos 0) × (h.y ≡ pos 0))
unfolding det dot cross
flat_y f g h l e = let z : f.x *ℤ (g.y *ℤ h.z -ℤ g.z *ℤ h.y) +ℤ f.y *ℤ (g.z *ℤ h.x -ℤ g.x *ℤ h.z) +ℤ f.z *ℤ (g.x *ℤ h.y -ℤ g.y *ℤ h.x) ≡ pos 0 =
    eq_by_3 (g.z *ℤ h.x -ℤ g.x *ℤ h.z) (f.x *ℤ h.z -ℤ f.z *ℤ h.x) (f.z *ℤ g.x -ℤ f.x *ℤ g.z) e.0 e.1 e.2 (ring (with_vector f (with_vector g (with_vector h []))) (search read depth 20) tt) in absurd (omega (arith, ints))

flat_z : (f g h : Vector) → pos 0 <ℤ det f g h → ¬ ((f.z ≡ pos 0) × (g.z ≡ pos 0) × (h.z ≡ pos 0))
unfolding det dot cross
flat_z f g h l e = let z : f.x *ℤ (g.y *ℤ h.z -ℤ g.z *ℤ h.y) +ℤ f.y *ℤ (g.z *ℤ h.x -ℤ g.x *ℤ h.z) +ℤ f.z *ℤ (g.x *ℤ h.y -ℤ g.y *ℤ h.x) ≡ pos 0 =
    eq_by_3 (g.x *ℤ h.y -ℤ g.y *ℤ h.x) (f.y *ℤ h.x -ℤ f.x *ℤ h.y) (f.x *ℤ g.y -ℤ f.y *ℤ g.x) e.0 e.1 e.2 (ring (with_vector f (with_vector g (with_vector h []))) (search read depth 20) tt) in absurd (omega (arith, ints))

divides_place : (u w : ℤ) → IsPlace u w → unsigned_abs w ∣ unsigned_abs u
divides_place u w p = subst (λ n. unsigned_abs w ∣ n) (sym (ap unsigned_abs p.is ∙ unsigned_abs-mul p.place w)) (dvd-mul_left (unsigned_abs w) (unsigned_abs p.place))

one_is : (w : ℤ) → pos 0 <ℤ w → unsigned_abs w ≡ 1 → w ≡ pos 1
one_is w h e = omega (arith, ints)

module _ (a : List Side) (along : Every (λ s. is_along_axis (bounds s).normal ≡ true) a) (v : Homogeneous) (is : IsVertex (half_spaces a) v) where
  on_x : (f : HalfSpace) → f ∈ half_spaces a → side f v ≡ pos 0 → ¬ (f.normal.x ≡ pos 0) → IsPlace v.vector.x v.weight
  on_x f m on n = let s = source bounds a f m in let k = subst (λ g. ¬ (g.normal.x ≡ pos 0)) (sym s.is) n in
      place_on (λ u. u.x) s.it v (along_x_by (pos 0) s.it (along s.it s.among) k) k (ap (λ g. side g v) s.is ∙ on)

  on_y : (f : HalfSpace) → f ∈ half_spaces a → side f v ≡ pos 0 → ¬ (f.normal.y ≡ pos 0) → IsPlace v.vector.y v.weight
  on_y f m on n = let s = source bounds a f m in let k = subst (λ g. ¬ (g.normal.y ≡ pos 0)) (sym s.is) n in
      place_on (λ u. u.y) s.it v (along_y_by (pos 0) s.it (along s.it s.among) k) k (ap (λ g. side g v) s.is ∙ on)

  on_z : (f : HalfSpace) → f ∈ half_spaces a → side f v ≡ pos 0 → ¬ (f.normal.z ≡ pos 0) → IsPlace v.vector.z v.weight
  on_z f m on n = let s = source bounds a f m in let k = subst (λ g. ¬ (g.normal.z ≡ pos 0)) (sym s.is) n in
      place_on (λ u. u.z) s.it v (along_z_by (pos 0) s.it (along s.it s.among) k) k (ap (λ g. side g v) s.is ∙ on)

  is_whole : IsReduced v → v.weight ≡ pos 1
  is_whole reduced = one_is v.weight is.inside.weight (reduced (unsigned_abs v.weight)
      (divides_place v.vector.x v.weight (some_part is.f.normal.x is.g.normal.x is.h.normal.x (flat_x is.f.normal is.g.normal is.h.normal is.independent) (on_x is.f is.f_in is.on_f) (on_x is.g is.g_in is.on_g) (on_x is.h is.h_in is.on_h)))
      (divides_place v.vector.y v.weight (some_part is.f.normal.y is.g.normal.y is.h.normal.y (flat_y is.f.normal is.g.normal is.h.normal is.independent) (on_y is.f is.f_in is.on_f) (on_y is.g is.g_in is.on_g) (on_y is.h is.h_in is.on_h)))
      (divides_place v.vector.z v.weight (some_part is.f.normal.z is.g.normal.z is.h.normal.z (flat_z is.f.normal is.g.normal is.h.normal is.independent) (on_z is.f is.f_in is.on_f) (on_z is.g is.g_in is.on_g) (on_z is.h is.h_in is.on_h)))
      (dvd_refl (unsigned_abs v.weight)))

-- ---- lengths by vertices
on_plain : (n c u w : ℤ) → u ≡ c *ℤ w → n *ℤ (u -ℤ c *ℤ w) ≡ pos 0
on_plain n c u w e = eq_by n e (ring (n ∷ c ∷ u ∷ w ∷ []) (search read depth 20) tt)

near_plain : (u v l w k : ℤ) → w ≡ pos 1 → k ≡ pos 1 → (u *ℤ k -ℤ v *ℤ w) ≤ℤ (l *ℤ (w *ℤ k)) → (u -ℤ v) ≤ℤ l
near_plain u v l w k e f h = let m : (u *ℤ pos 1 -ℤ v *ℤ pos 1) ≤ℤ (l *ℤ (pos 1 *ℤ pos 1)) = subst (λ x. (u *ℤ pos 1 -ℤ v *ℤ x) ≤ℤ (l *ℤ (x *ℤ pos 1))) e (subst (λ x. (u *ℤ x -ℤ v *ℤ w) ≤ℤ (l *ℤ (w *ℤ x))) f h) in omega (arith, ints)

far_apart : (c d u v l : ℤ) → c ≤ℤ u → d ≤ℤ neg_ℤ v → (u -ℤ v) ≤ℤ l → (c +ℤ d) ≤ℤ l
far_apart c d u v l h k m = omega (arith, ints)

module _ (a : List Side) (V : List Homogeneous) (solid : IsSolid a) (along : Every (λ s. is_along_axis (bounds s).normal ≡ true) a) (vertices : AreVertices (half_spaces a) V) where
  abbrev F : List HalfSpace
  F = half_spaces a

  whole : Every (λ v. v.weight ≡ pos 1) V
  whole v m = let u = vertices.each v m in is_whole a along v u.0 u.1

  top_on : {way : Vector → ℤ} (r : Reach way (pos 0) a) → side (bounds r.side_is) r.top ≡ pos 0
  top_on {way} r = r.faces.outer r.top ∙ on_plain r.faces.n r.faces.place (way r.top.vector) r.top.weight r.top_at

  far_vertex : {way : Vector → ℤ} (r : Reach way (pos 0) a) → FarVertex way r.faces.place V
  far_vertex {way} r =
      let k = bounds r.side_is in
      let v = vertex_above F V k r.top (bounded (pos 0) a solid along) vertices r.top_in in record {
        at = v.at;
        among = v.among;
        reaches = far_plain r.faces.n r.faces.place (way v.at.vector) v.at.weight (side k r.top) r.top.weight r.faces.ahead r.top_in.weight (whole v.at v.among)
            (top_on r)
            (subst (λ s. (side k r.top *ℤ v.at.weight) ≤ℤ (s *ℤ r.top.weight)) (r.faces.outer v.at) v.higher);
      }

  near_of_short : (coordinate : Vector → ℤ) (length : ℤ) → IsShortAlong coordinate length F → AreNear coordinate length V
  near_of_short coordinate length h v w m n = near_plain (coordinate v.vector) (coordinate w.vector) length v.weight w.weight (whole v m) (whole w n)
      (h v w (vertices.each v m).0.inside (vertices.each w n).0.inside)

  short_of_near : {coordinate : Vector → ℤ} (r : Reach coordinate (pos 0) a) (l : Reach (λ v. neg_ℤ (coordinate v)) (pos 0) a) (length : ℤ) → AreNear coordinate length V → IsShortAlong coordinate length F
  short_of_near {coordinate} r l length h = let v = far_vertex r in let w = far_vertex l in
      short_along r l length (far_apart r.faces.place l.faces.place (coordinate v.at.vector) (coordinate w.at.vector) length v.reaches w.reaches (h v.at w.at v.among w.among))

  b : BoxReach (pos 0) a
  b = box_reach (pos 0) a solid along

  by_vertices : ShortByVertices F V
  by_vertices = record {
    whole = whole;
    short = λ length. (
      ⊎_elim (λ x. inl (near_of_short right length x)) (λ k. inr (⊎_elim (λ y. inl (near_of_short far length y)) (λ z. inr (near_of_short up length z)) k)),
      ⊎_elim (λ x. inl (short_of_near b.right_is b.left_is length x)) (λ k. inr (⊎_elim (λ y. inl (short_of_near b.far_is b.near_is length y)) (λ z. inr (short_of_near b.up_is b.down_is length z)) k)),
    );
  }

pub short_by_vertices : ShortByVerticesLaw
short_by_vertices a V solid box vertices = by_vertices a V solid (each_along a (axes_of_box a box)) vertices
