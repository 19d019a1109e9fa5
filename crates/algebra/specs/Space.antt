-- Space in whole numbers: vectors, points, half-spaces.
use Rattle.std.specs.Prelude.{◌≡◌, ℤ, pos, neg_ℤ, ◌+ℤ◌, ◌-ℤ◌, ◌*ℤ◌, ◌<ℤ◌, ◌≤ℤ◌}

-- A vector, or a point with whole coordinates.
pub record Vector : Type 0 where
  pub x : ℤ
  pub y : ℤ
  pub z : ℤ

unfoldable pub dot : Vector → Vector → ℤ
dot a b = a.x *ℤ b.x +ℤ a.y *ℤ b.y +ℤ a.z *ℤ b.z

unfoldable pub cross : Vector → Vector → Vector
cross a b = record {
  x = a.y *ℤ b.z -ℤ a.z *ℤ b.y;
  y = a.z *ℤ b.x -ℤ a.x *ℤ b.z;
  z = a.x *ℤ b.y -ℤ a.y *ℤ b.x;
}

unfoldable pub scale : ℤ → Vector → Vector
scale k a = record { x = k *ℤ a.x; y = k *ℤ a.y; z = k *ℤ a.z }

unfoldable pub plus : Vector → Vector → Vector
plus a b = record { x = a.x +ℤ b.x; y = a.y +ℤ b.y; z = a.z +ℤ b.z }

unfoldable pub minus : Vector → Vector → Vector
minus a b = record { x = a.x -ℤ b.x; y = a.y -ℤ b.y; z = a.z -ℤ b.z }

-- The determinant of three vectors.
unfoldable pub det : Vector → Vector → Vector → ℤ
det a b c = dot a (cross b c)

-- A point by homogeneous coordinates: (x / w, y / w, z / w), where the weight w is above 0.
pub record Homogeneous : Type 0 where
  pub vector : Vector
  pub weight : ℤ

-- The half-space of the points p with normal . p at most distance, behind the plane where they are equal.
pub record HalfSpace : Type 0 where
  pub normal : Vector
  pub distance : ℤ

-- On which side of the plane a point lies: 0 on it, below 0 behind it, above 0 in front of it.
unfoldable pub side : HalfSpace → Homogeneous → ℤ
side h p = dot h.normal p.vector -ℤ h.distance *ℤ p.weight

-- Each point is in both half-spaces or in neither.
pub record SameHalfSpace (f g : HalfSpace) : Type 0 where
  pub onto : (p : Homogeneous) → pos 0 <ℤ p.weight → side f p ≤ℤ pos 0 → side g p ≤ℤ pos 0
  pub back : (p : Homogeneous) → pos 0 <ℤ p.weight → side g p ≤ℤ pos 0 → side f p ≤ℤ pos 0

-- The half-space in front of the same plane.
unfoldable pub reverse : HalfSpace → HalfSpace
reverse h = record { normal = scale (neg_ℤ (pos 1)) h.normal; distance = neg_ℤ h.distance }

-- The half-space of three points on its plane. They run clockwise seen from in front.
unfoldable pub through : Vector → Vector → Vector → HalfSpace
through p0 p1 p2 = record {
  normal = cross (minus p0 p1) (minus p2 p1);
  distance = dot (cross (minus p0 p1) (minus p2 p1)) p1;
}

-- A vector as a point.
unfoldable pub whole_point : Vector → Homogeneous
whole_point p = record { vector = p; weight = pos 1 }

-- A point of the line through two others: between them where both factors are above 0.
unfoldable pub mix : ℤ → Homogeneous → ℤ → Homogeneous → Homogeneous
mix s p t q = record {
  vector = plus (scale s p.vector) (scale t q.vector);
  weight = s *ℤ p.weight +ℤ t *ℤ q.weight;
}

-- The point p moved by m times t / (q * the weight of p).
unfoldable pub go : ℤ → ℤ → Homogeneous → Vector → Homogeneous
go q t p m = record { vector = plus (scale q p.vector) (scale t m); weight = q *ℤ p.weight }

-- The direction from p to q, with the length of the way times both weights.
unfoldable pub way : Homogeneous → Homogeneous → Vector
way p q = minus (scale p.weight q.vector) (scale q.weight p.vector)

-- The point that three planes share, by Cramer's rule. Its weight is 0 where there is no such point, or more than one.
unfoldable pub meet : HalfSpace → HalfSpace → HalfSpace → Homogeneous
meet f g h = record {
  vector = plus (plus (scale f.distance (cross g.normal h.normal)) (scale g.distance (cross h.normal f.normal)))
      (scale h.distance (cross f.normal g.normal));
  weight = det f.normal g.normal h.normal;
}

-- Whether two points of weights above 0 are one.
pub record SamePoint (p q : Homogeneous) : Type 0 where
  pub x : p.vector.x *ℤ q.weight ≡ q.vector.x *ℤ p.weight
  pub y : p.vector.y *ℤ q.weight ≡ q.vector.y *ℤ p.weight
  pub z : p.vector.z *ℤ q.weight ≡ q.vector.z *ℤ p.weight
