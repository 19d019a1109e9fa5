-- Sides along a coordinate, and the way in which they face.
use Rattle.std.proofs.Common.{◌≡◌, [], ◌∷◌, ap, sym, ◌∙◌, arith, true, ℤ, pos, neg_ℤ, ◌+ℤ◌, ◌-ℤ◌, ◌*ℤ◌, ◌<ℤ◌}
use Rattle.std.proofs.lemmas.Int.{ints}
use Rattle.algebra.specs.Space.{Vector, Homogeneous, HalfSpace, dot, side, whole_point}
use Rattle.algebra.proofs.Expr.{read}
use Rattle.algebra.proofs.Ring.{ring}
use Rattle.algebra.proofs.Orders.{positive-neg, by_sign}
use Rattle.algebra.proofs.Identities.{through-first}
use Rattle.exact_geom.specs.Planes.{vector}
use Rattle.solid_brush.specs.declared.side.Side.{Side}
use Rattle.solid_brush.specs.Sides.{bounds}
use Rattle.csg_ops.specs.Hollows.{is_along_axis, against, inward, inward_point, inward_plane}
use Rattle.csg_ops.proofs.MovedPlanes.{Axis, along_x, along_y, along_z, axis_of, alone, turn, against_front, against_back, normal_kept}

-- ---- the side of a plane along a coordinate, by a point on it
module _ (f : HalfSpace) (q : Vector) (p : Homogeneous) (on : side f (whole_point q) ≡ pos 0) where
  abbrev plain : Type 0
  plain = f.normal.x *ℤ q.x +ℤ f.normal.y *ℤ q.y +ℤ f.normal.z *ℤ q.z -ℤ f.distance *ℤ pos 1 ≡ pos 0

  plain_on : plain
  unfolding side dot whole_point
  plain_on = on

  by_x : f.normal.y ≡ pos 0 → f.normal.z ≡ pos 0 → side f p ≡ f.normal.x *ℤ (p.vector.x -ℤ q.x *ℤ p.weight)
  unfolding side dot
  by_x y z = alone f.normal.x f.normal.y f.normal.z f.distance p.vector.x p.vector.y p.vector.z p.weight q.x q.y q.z y z plain_on

  by_y : f.normal.z ≡ pos 0 → f.normal.x ≡ pos 0 → side f p ≡ f.normal.y *ℤ (p.vector.y -ℤ q.y *ℤ p.weight)
  unfolding side dot
  by_y z x = turn f.normal.x f.normal.y f.normal.z f.distance p.vector.x p.vector.y p.vector.z p.weight
      ∙ alone f.normal.y f.normal.z f.normal.x f.distance p.vector.y p.vector.z p.vector.x p.weight q.y q.z q.x z x
      (sym (turn f.normal.x f.normal.y f.normal.z f.distance q.x q.y q.z (pos 1)) ∙ plain_on)

  by_z : f.normal.x ≡ pos 0 → f.normal.y ≡ pos 0 → side f p ≡ f.normal.z *ℤ (p.vector.z -ℤ q.z *ℤ p.weight)
  unfolding side dot
  by_z x y = turn f.normal.x f.normal.y f.normal.z f.distance p.vector.x p.vector.y p.vector.z p.weight
      ∙ turn f.normal.y f.normal.z f.normal.x f.distance p.vector.y p.vector.z p.vector.x p.weight
      ∙ alone f.normal.z f.normal.x f.normal.y f.distance p.vector.z p.vector.x p.vector.y p.weight q.z q.x q.y x y
      (sym (turn f.normal.x f.normal.y f.normal.z f.distance q.x q.y q.z (pos 1) ∙ turn f.normal.y f.normal.z f.normal.x f.distance q.y q.z q.x (pos 1)) ∙ plain_on)

-- ---- sides along a coordinate
-- By the coordinate alone the plane of the side, and that plane moved inward, tell on which side a point lies.
pub record IsAlong (coordinate : Vector → ℤ) (t : ℤ) (s : Side) : Type 0 where
  pub place : ℤ
  pub outer : (p : Homogeneous) → side (bounds s) p ≡ coordinate (bounds s).normal *ℤ (coordinate p.vector -ℤ place *ℤ p.weight)
  pub inner : (p : Homogeneous) → side (bounds (inward t s)) p ≡ coordinate (bounds s).normal *ℤ (coordinate p.vector -ℤ against t (coordinate (bounds s).normal) place *ℤ p.weight)

module _ (t : ℤ) (s : Side) where
  abbrev first : Vector
  first = vector s.plane.p0

  abbrev moved : HalfSpace
  moved = bounds (inward t s)

  abbrev moved_first : Vector
  moved_first = vector (inward_point t (bounds s).normal s.plane.p0)

  same : moved.normal ≡ (bounds s).normal
  same = normal_kept t s.plane

  on_plane : side (bounds s) (whole_point first) ≡ pos 0
  on_plane = through-first (vector s.plane.p0) (vector s.plane.p1) (vector s.plane.p2)

  on_moved : side moved (whole_point moved_first) ≡ pos 0
  on_moved = let m = inward_plane t s.plane in through-first (vector m.p0) (vector m.p1) (vector m.p2)

  pub is_along_x : (bounds s).normal.y ≡ pos 0 → (bounds s).normal.z ≡ pos 0 → IsAlong (λ v. v.x) t s
  is_along_x y z = record {
    place = s.plane.p0.x;
    outer = λ p. by_x (bounds s) first p on_plane y z;
    inner = λ p. by_x moved moved_first p on_moved (ap (λ n. n.y) same ∙ y) (ap (λ n. n.z) same ∙ z)
        ∙ ap (λ n. n.x *ℤ (p.vector.x -ℤ against t (bounds s).normal.x s.plane.p0.x *ℤ p.weight)) same;
  }

  pub is_along_y : (bounds s).normal.z ≡ pos 0 → (bounds s).normal.x ≡ pos 0 → IsAlong (λ v. v.y) t s
  is_along_y z x = record {
    place = s.plane.p0.y;
    outer = λ p. by_y (bounds s) first p on_plane z x;
    inner = λ p. by_y moved moved_first p on_moved (ap (λ n. n.z) same ∙ z) (ap (λ n. n.x) same ∙ x)
        ∙ ap (λ n. n.y *ℤ (p.vector.y -ℤ against t (bounds s).normal.y s.plane.p0.y *ℤ p.weight)) same;
  }

  pub is_along_z : (bounds s).normal.x ≡ pos 0 → (bounds s).normal.y ≡ pos 0 → IsAlong (λ v. v.z) t s
  is_along_z x y = record {
    place = s.plane.p0.z;
    outer = λ p. by_z (bounds s) first p on_plane x y;
    inner = λ p. by_z moved moved_first p on_moved (ap (λ n. n.x) same ∙ x) (ap (λ n. n.y) same ∙ y)
        ∙ ap (λ n. n.z *ℤ (p.vector.z -ℤ against t (bounds s).normal.z s.plane.p0.z *ℤ p.weight)) same;
  }

-- ---- sides that face one of the six ways, which is a coordinate or its negative
pub record Faces (way : Vector → ℤ) (t : ℤ) (s : Side) : Type 0 where
  pub n : ℤ
  pub place : ℤ
  pub ahead : pos 0 <ℤ n
  pub outer : (p : Homogeneous) → side (bounds s) p ≡ n *ℤ (way p.vector -ℤ place *ℤ p.weight)
  pub inner : (p : Homogeneous) → side (bounds (inward t s)) p ≡ n *ℤ (way p.vector -ℤ (place -ℤ t) *ℤ p.weight)

pub forward : {coordinate : Vector → ℤ} (t : ℤ) (s : Side) → IsAlong coordinate t s → pos 0 <ℤ coordinate (bounds s).normal → Faces coordinate t s
forward {coordinate} t s a h = record {
  n = coordinate (bounds s).normal;
  place = a.place;
  ahead = h;
  outer = a.outer;
  inner = λ p. a.inner p ∙ ap (λ c. coordinate (bounds s).normal *ℤ (coordinate p.vector -ℤ c *ℤ p.weight)) (against_front t (coordinate (bounds s).normal) a.place h);
}

turned : (n u c w : ℤ) → n *ℤ (u -ℤ c *ℤ w) ≡ neg_ℤ n *ℤ (neg_ℤ u -ℤ neg_ℤ c *ℤ w)
turned n u c w = ring (n ∷ u ∷ c ∷ w ∷ []) (search read depth 20) tt

turned_in : (n u c t w : ℤ) → n *ℤ (u -ℤ (c +ℤ t) *ℤ w) ≡ neg_ℤ n *ℤ (neg_ℤ u -ℤ (neg_ℤ c -ℤ t) *ℤ w)
turned_in n u c t w = ring (n ∷ u ∷ c ∷ t ∷ w ∷ []) (search read depth 20) tt

pub backward : {coordinate : Vector → ℤ} (t : ℤ) (s : Side) → IsAlong coordinate t s → coordinate (bounds s).normal <ℤ pos 0 → Faces (λ v. neg_ℤ (coordinate v)) t s
backward {coordinate} t s a h = let n = coordinate (bounds s).normal in record {
  n = neg_ℤ n;
  place = neg_ℤ a.place;
  ahead = positive-neg h;
  outer = λ p. a.outer p ∙ turned n (coordinate p.vector) a.place p.weight;
  inner = λ p. a.inner p ∙ ap (λ c. n *ℤ (coordinate p.vector -ℤ c *ℤ p.weight)) (against_back t n a.place h) ∙ turned_in n (coordinate p.vector) a.place t p.weight;
}

-- Some point is not on the plane, so the side faces one way or the other.
pub both_ways : {P : Type 0} {coordinate : Vector → ℤ} (t : ℤ) (s : Side) (o : Homogeneous) → side (bounds s) o <ℤ pos 0 → IsAlong coordinate t s →
    (Faces coordinate t s → P) → (Faces (λ v. neg_ℤ (coordinate v)) t s → P) → P
both_ways {P} {coordinate} t s o b a ahead back = by_sign (coordinate (bounds s).normal)
    (λ l. back (backward t s a l))
    (λ z.
    let e : side (bounds s) o ≡ pos 0 *ℤ (coordinate o.vector -ℤ a.place *ℤ o.weight) = a.outer o ∙ ap (λ n. n *ℤ (coordinate o.vector -ℤ a.place *ℤ o.weight)) z in
    let k : pos 0 *ℤ (coordinate o.vector -ℤ a.place *ℤ o.weight) ≡ pos 0 = nothing (coordinate o.vector -ℤ a.place *ℤ o.weight) in absurd (omega (arith, ints)))
    (λ l. ahead (forward t s a l))
  where
    nothing : (u : ℤ) → pos 0 *ℤ u ≡ pos 0
    nothing u = ring (u ∷ []) (search read depth 20) tt

-- ---- a side with a part of its normal that isn't 0 is along that coordinate
pub along_x_by : (t : ℤ) (s : Side) → is_along_axis (bounds s).normal ≡ true → ¬ ((bounds s).normal.x ≡ pos 0) → IsAlong (λ v. v.x) t s
along_x_by t s h n = go (axis_of (bounds s).normal h)
  where
    go : Axis (bounds s).normal → IsAlong (λ v. v.x) t s
    go (along_x y z) = is_along_x t s y z
    go (along_y z x) = absurd (n x)
    go (along_z x y) = absurd (n x)

pub along_y_by : (t : ℤ) (s : Side) → is_along_axis (bounds s).normal ≡ true → ¬ ((bounds s).normal.y ≡ pos 0) → IsAlong (λ v. v.y) t s
along_y_by t s h n = go (axis_of (bounds s).normal h)
  where
    go : Axis (bounds s).normal → IsAlong (λ v. v.y) t s
    go (along_x y z) = absurd (n y)
    go (along_y z x) = is_along_y t s z x
    go (along_z x y) = absurd (n y)

pub along_z_by : (t : ℤ) (s : Side) → is_along_axis (bounds s).normal ≡ true → ¬ ((bounds s).normal.z ≡ pos 0) → IsAlong (λ v. v.z) t s
along_z_by t s h n = go (axis_of (bounds s).normal h)
  where
    go : Axis (bounds s).normal → IsAlong (λ v. v.z) t s
    go (along_x y z) = absurd (n z)
    go (along_y z x) = absurd (n z)
    go (along_z x y) = is_along_z t s x y
