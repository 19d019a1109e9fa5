-- The vertices of a bounded solid with a point inside span space.
use Rattle.std.proofs.Common.{◌≡◌, List, [], ◌∷◌, map, inl, inr, ◌⊎◌, sym, subst, arith, ℤ, pos, negsuc, neg_ℤ, ◌*ℤ◌, ◌<ℤ◌, ◌≤ℤ◌}
use Rattle.std.proofs.lemmas.Int.{ints, by_lt_z}
use Rattle.algebra.specs.Members.{◌∈◌}
use Rattle.algebra.specs.Space.{Vector, Homogeneous, HalfSpace, dot, minus, scale, side, through, reverse, go, whole_point}
use Rattle.algebra.proofs.Expr.{read}
use Rattle.algebra.proofs.Ring.{ring}
use Rattle.algebra.proofs.Orders.{by_sign, nonneg-mul, positive-mul}
use Rattle.algebra.proofs.Identities.{side-go, side-reverse, dot-neg}
use Rattle.algebra.proofs.Points.{weight-go, same-behind, same-front}
use Rattle.algebra.proofs.Vectors.{nonzero, across, cross_nonzero}
use Rattle.trim_laws.specs.Solid.{IsInside, Bounded}
use Rattle.trim_laws.proofs.Bearing.{in_of_inside}
use Rattle.trim_laws.proofs.Steps.{small, step_short, step_front}
use Rattle.vertex_laws.specs.Vertex.{IsVertex}
use Rattle.vertex_laws.proofs.Corner.{corner_below}
use Rattle.solid_laws.specs.Names.{AreVertices}
use Rattle.solid_laws.proofs.Holds.{holds_vertices}
use Rattle.hull_laws.specs.Facets.{Spans}
use Rattle.hull_laws.specs.Pivots.{slope}
use Rattle.hull_laws.proofs.Loop.{spans_of}
use Rattle.hull_laws.proofs.Separate.{slope-at, wide_of}
use Rattle.map_model.proofs.Members.{map_in}

-- Behind or in front of a plane.
abbrev pub IsOff : ℤ → Type 0
IsOff s = (s <ℤ pos 0) ⊎ (pos 0 <ℤ s)

record OffVertex (F : List HalfSpace) (g : HalfSpace) : Type 0 where
  at : Homogeneous
  vertex : IsVertex F at
  off : IsOff (side g at)

below_plain : (c w s v : ℤ) → (c *ℤ w) ≤ℤ (s *ℤ v) → s <ℤ pos 0 → pos 0 <ℤ w → pos 0 <ℤ v → c <ℤ pos 0
below_plain c w s v h l p q = by_lt_z c (pos 0) (λ k. k)
    (λ k.
    let a : pos 0 ≤ℤ (c *ℤ w) = nonneg-mul {a = c} {b = w} k (omega (arith, ints)) in
    let b : pos 0 <ℤ (neg_ℤ s *ℤ v) = positive-mul {a = neg_ℤ s} {b = v} (omega (arith, ints)) q in
    let e : neg_ℤ s *ℤ v ≡ neg_ℤ (s *ℤ v) = ring (s ∷ v ∷ []) (search read depth 20) tt in
    absurd (omega (arith, ints)))

module _ (F : List HalfSpace) (bounded : Bounded F) where
  vertex_behind : (g : HalfSpace) (o : Homogeneous) → IsInside F o → side g o <ℤ pos 0 → (v : Homogeneous) × IsVertex F v × (side g v <ℤ pos 0)
  vertex_behind g o i l =
      let c = corner_below F g o bounded (in_of_inside i) in
      (c.at, c.vertex, below_plain (side g c.at) o.weight (side g o) c.at.weight c.lower.le l i.weight c.vertex.inside.weight)

  turned : (s : ℤ) → neg_ℤ s <ℤ pos 0 → pos 0 <ℤ s
  turned s h = omega (arith, ints)

  turn : (s : ℤ) → pos 0 <ℤ s → neg_ℤ s <ℤ pos 0
  turn s h = omega (arith, ints)

  vertex_before : (g : HalfSpace) (o : Homogeneous) → IsInside F o → pos 0 <ℤ side g o → OffVertex F g
  vertex_before g o i l =
      let c = vertex_behind (reverse g) o i (subst (λ s. s <ℤ pos 0) (sym (side-reverse g o)) (turn (side g o) l)) in
      record { at = c.0; vertex = c.1; off = inr (turned (side g c.0) (subst (λ s. s <ℤ pos 0) (side-reverse g c.0) c.2)) }

  -- Some vertex is off each plane.
  off_vertex : (g : HalfSpace) (o : Homogeneous) → IsInside F o → pos 0 <ℤ dot g.normal g.normal → OffVertex F g
  off_vertex g o i some = by_sign (side g o)
      (λ l. let c = vertex_behind g o i l in record { at = c.0; vertex = c.1; off = inl c.2 })
      (λ e.
      let k = small (λ f. side f o) (λ f. dot f.normal g.normal) F in
      let p = go k.n (pos 1) o g.normal in
      vertex_before g p
      (record {
        weight = weight-go k.n (pos 1) o g.normal k.positive i.weight;
        all = λ f m. subst (λ s. s <ℤ pos 0) (sym (side-go k.n (pos 1) o g.normal f)) (step_short k.n (side f o) (dot f.normal g.normal) (k.below f m (i.all f m)));
      })
      (subst (λ s. pos 0 <ℤ s) (sym (side-go k.n (pos 1) o g.normal g)) (step_front k.n (side g o) (dot g.normal g.normal) e some)))
      (λ l. vertex_before g o i l)

-- A direction, or its opposite.
record Ahead (d m : Vector) : Type 0 where
  way : Vector
  ahead : pos 0 <ℤ dot d way
  flat : (e : Vector) → dot e m ≡ pos 0 → dot e way ≡ pos 0

ahead_of : (d m : Vector) → IsOff (dot d m) → Ahead d m
ahead_of d m (inr l) = record { way = m; ahead = l; flat = λ e z. z }
ahead_of d m (inl l) = record { way = scale (negsuc 0) m; ahead = rw dot-neg (omega (arith, ints)); flat = λ e z. rw dot-neg (omega (arith, ints)) }

east : Vector
east = record { x = pos 1; y = pos 0; z = pos 0 }

east_some : pos 0 <ℤ dot east east
unfolding east dot
east_some = omega (arith, ints)

slope_some : (m a : Vector) → pos 0 <ℤ dot m m → pos 0 <ℤ dot (slope m a).normal (slope m a).normal
unfolding slope
slope_some m a h = h

-- Whole vertices span space.

module _ (F : List HalfSpace) (V : List Homogeneous) (o : Homogeneous) (bounded : Bounded F) (vertices : AreVertices F V) (i : IsInside F o) (whole : (v : Homogeneous) → v ∈ V → v.weight ≡ pos 1) where
  record Off (g : HalfSpace) : Type 0 where
    at : Vector
    among : at ∈ map (λ v. v.vector) V
    off : IsOff (side g (whole_point at))

  as_whole : (v : Homogeneous) → v ∈ V → v ≡ whole_point v.vector
  unfolding whole_point
  as_whole v m = λ k. record { vector = v.vector; weight = whole v m k }

  off_plane : (g : HalfSpace) → pos 0 <ℤ dot g.normal g.normal → Off g
  off_plane g some =
      let c = off_vertex F bounded g o i some in
      let s = (holds_vertices F V vertices).all c.at c.vertex in
      let w = (vertices.each s.s s.among).0.inside.weight in
      let off : IsOff (side g s.s) = elim c.off [ inl l ↦ inl (same-behind g c.at s.s c.vertex.inside.weight w s.same l) | inr l ↦ inr (same-front g c.at s.s c.vertex.inside.weight w s.same l) ] in
      record { at = s.s.vector; among = map_in (λ v. v.vector) V s.s s.among; off = subst (λ v. IsOff (side g v)) (as_whole s.s s.among) off }

  pub vertices_span : Spans (map (λ v. v.vector) V)
  vertices_span =
      let a = off_plane (slope east east) (slope_some east east east_some) in
      let b = off_plane (slope east a.at) (slope_some east a.at east_some) in
      let along = minus b.at a.at in
      let m = ahead_of along east (subst IsOff (slope-at east a.at b.at) b.off) in
      let long = nonzero along m.way m.ahead in
      let side_way = across along along in
      let c = off_plane (slope side_way.way a.at) (slope_some side_way.way a.at side_way.some) in
      let aside = minus c.at a.at in
      let k = ahead_of aside side_way.way (subst IsOff (slope-at side_way.way a.at c.at) c.off) in
      let wide = cross_nonzero along aside k.way (k.flat along side_way.flat) long k.ahead in
      let d = off_plane (through a.at b.at c.at) (subst (λ s. pos 0 <ℤ s) (sym (wide_of a.at b.at c.at)) wide) in
      spans_of (map (λ v. v.vector) V) a.at b.at c.at d.at a.among b.among c.among d.among d.off
