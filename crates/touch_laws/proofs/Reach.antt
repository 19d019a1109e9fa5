-- A bounded solid reaches no further than its vertices.
use Rattle.std.proofs.Common.{◌≡◌, ℕ, ◌<◌, List, [], ◌∷◌, arith, refl, subst, sym, ap, ◌∙◌, ℤ, pos, neg_ℤ, ◌+ℤ◌, ◌-ℤ◌, ◌*ℤ◌, ◌<ℤ◌, ◌≤ℤ◌}
use Rattle.std.proofs.lemmas.Int.{ints}
use Rattle.algebra.specs.Members.{◌∈◌}
use Rattle.algebra.specs.Fractions.{Fraction≤}
use Rattle.algebra.specs.Space.{Vector, Homogeneous, HalfSpace, SamePoint, dot, plus, scale, go, side}
use Rattle.algebra.proofs.Expr.{read}
use Rattle.algebra.proofs.Ring.{ring}
use Rattle.algebra.proofs.Orders.{cancel-le_left, mul-le_left, nonneg_of_positive}
use Rattle.algebra.proofs.Points.{scaled_sides}
use Rattle.trim_laws.specs.Solid.{IsIn, IsInside, Bounded}
use Rattle.vertex_laws.specs.Vertex.{IsVertex}
use Rattle.vertex_laws.proofs.Corner.{corner_below}
use Rattle.solid_laws.specs.Names.{AreVertices}
use Rattle.solid_laws.proofs.Holds.{holds_vertices}
use Rattle.touch_laws.specs.Boxes.{IsLow, IsHigh}

-- The coordinate as a side: of the plane through the origin along a normal.
level : Vector → HalfSpace
level n = record { normal = n; distance = pos 0 }

side-level : (n : Vector) (p : Homogeneous) → side (level n) p ≡ dot n p.vector
unfolding level side
side-level n p = plain (dot n p.vector) p.weight
  where
    plain : (a w : ℤ) → a -ℤ pos 0 *ℤ w ≡ a
    plain a w = ring (a ∷ w ∷ []) (search read depth 20) tt

-- a / w is at least the bound, and b / u is at least a / w.
pub bound_plain : (low a w b u : ℤ) → pos 0 <ℤ w → pos 0 <ℤ u → (low *ℤ w) ≤ℤ a → (a *ℤ u) ≤ℤ (b *ℤ w) → (low *ℤ u) ≤ℤ b
bound_plain low a w b u h k l m =
    cancel-le_left w h (let x = mul-le_left u (nonneg_of_positive k) l in
    let e : u *ℤ (low *ℤ w) ≡ w *ℤ (low *ℤ u) = ring (u ∷ low ∷ w ∷ []) (search read depth 20) tt in
    let f : u *ℤ a ≡ a *ℤ u = ring (u ∷ a ∷ []) (search read depth 20) tt in
    let g : b *ℤ w ≡ w *ℤ b = ring (b ∷ w ∷ []) (search read depth 20) tt in omega (arith, ints))

turn_plain : (w s u t b a : ℤ) → w *ℤ s ≡ u *ℤ t → s ≡ b → t ≡ a → (a *ℤ u) ≤ℤ (b *ℤ w)
turn_plain w s u t b a e f g =
    let h : w *ℤ b ≡ u *ℤ a = ap (λ k. w *ℤ k) (sym f) ∙ e ∙ ap (λ k. u *ℤ k) g in
    let x : a *ℤ u ≡ u *ℤ a = ring (a ∷ u ∷ []) (search read depth 20) tt in
    let y : b *ℤ w ≡ w *ℤ b = ring (b ∷ w ∷ []) (search read depth 20) tt in omega (arith, ints)

-- The bound by a normal in place of a coordinate.
module _ (F : List HalfSpace) (n : Vector) (low : ℤ) (V : List Homogeneous) (bounded : Bounded F) (vertices : AreVertices F V)
    (each : (v : Homogeneous) → v ∈ V → (low *ℤ v.weight) ≤ℤ dot n v.vector) where
  at_vertex : (v : Homogeneous) → IsVertex F v → (low *ℤ v.weight) ≤ℤ dot n v.vector
  at_vertex v is =
      let a = (holds_vertices F V vertices).all v is in
      let s = scaled_sides (level n) v a.s a.same in
      bound_plain low (dot n a.s.vector) a.s.weight (dot n v.vector) v.weight ((vertices.each a.s a.among).0.inside.weight) is.inside.weight (each a.s a.among)
      (turn_plain a.s.weight (side (level n) v) v.weight (side (level n) a.s) (dot n v.vector) (dot n a.s.vector) s.is (side-level n v) (side-level n a.s))

  pub below_all : (p : Homogeneous) → IsIn F p → (low *ℤ p.weight) ≤ℤ dot n p.vector
  below_all p i =
      let c = corner_below F (level n) p bounded i in
      bound_plain low (dot n c.at.vector) c.at.weight (dot n p.vector) p.weight c.vertex.inside.weight i.weight (at_vertex c.at c.vertex)
      (subst (λ k. (k *ℤ p.weight) ≤ℤ (dot n p.vector *ℤ c.at.weight)) (side-level n c.at)
      (subst (λ k. (side (level n) c.at *ℤ p.weight) ≤ℤ (k *ℤ c.at.weight)) (side-level n p) c.lower.le))

-- ---- the greatest whole bound of a coordinate of a solid, by its vertices
pub low_is : (coordinate : Vector → ℤ) (n : Vector) → ((v : Vector) → dot n v ≡ coordinate v) → (F : List HalfSpace) (low : ℤ) (V : List Homogeneous) →
    Bounded F → AreVertices F V → ((v : Homogeneous) → v ∈ V → (low *ℤ v.weight) ≤ℤ coordinate v.vector) →
    ((k : ℤ) → ((p : Homogeneous) → IsIn F p → (k *ℤ p.weight) ≤ℤ coordinate p.vector) → k ≤ℤ low) → IsLow coordinate F low
low_is coordinate n is_dot F low V bounded vertices each greatest = record {
  below = λ p i. subst (λ k. (low *ℤ p.weight) ≤ℤ k) (is_dot p.vector)
      (below_all F n low V bounded vertices (λ v m. subst (λ k. (low *ℤ v.weight) ≤ℤ k) (sym (is_dot v.vector)) (each v m)) p i);
  greatest = greatest;
}

-- ---- the other way along the axis
turned_above : (low w v : ℤ) → (low *ℤ w) ≤ℤ neg_ℤ v → v ≤ℤ (neg_ℤ low *ℤ w)
turned_above low w v h = let e : neg_ℤ low *ℤ w ≡ neg_ℤ (low *ℤ w) = ring (low ∷ w ∷ []) (search read depth 20) tt in omega (arith, ints)

turned_below : (k w v : ℤ) → v ≤ℤ (k *ℤ w) → (neg_ℤ k *ℤ w) ≤ℤ neg_ℤ v
turned_below k w v h = let e : neg_ℤ k *ℤ w ≡ neg_ℤ (k *ℤ w) = ring (k ∷ w ∷ []) (search read depth 20) tt in omega (arith, ints)

turned_least : (k low : ℤ) → neg_ℤ k ≤ℤ low → neg_ℤ low ≤ℤ k
turned_least k low h = omega (arith, ints)

pub high_of_low : (coordinate : Vector → ℤ) (F : List HalfSpace) (low : ℤ) → IsLow (λ v. neg_ℤ (coordinate v)) F low → IsHigh coordinate F (neg_ℤ low)
high_of_low coordinate F low l = record {
  above = λ p i. turned_above low p.weight (coordinate p.vector) (l.below p i);
  least = λ k each. turned_least k low (l.greatest (neg_ℤ k) (λ p i. turned_below k p.weight (coordinate p.vector) (each p i)));
}
