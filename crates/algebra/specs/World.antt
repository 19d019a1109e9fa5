-- The cubes of the world. Lengths are map units.
use Rattle.std.specs.Prelude.{ℕ, ℤ, pos, neg_ℤ, ◌*ℤ◌, ◌≤ℤ◌}
use Rattle.algebra.specs.Space.{Homogeneous}

-- Each coordinate of the point is from -c to c.
pub record InCube (c : ℤ) (p : Homogeneous) : Type 0 where
  pub left : neg_ℤ (c *ℤ p.weight) ≤ℤ p.vector.x
  pub right : p.vector.x ≤ℤ (c *ℤ p.weight)
  pub near : neg_ℤ (c *ℤ p.weight) ≤ℤ p.vector.y
  pub far : p.vector.y ≤ℤ (c *ℤ p.weight)
  pub bottom : neg_ℤ (c *ℤ p.weight) ≤ℤ p.vector.z
  pub top : p.vector.z ≤ℤ (c *ℤ p.weight)

-- The greatest size of a coordinate of a brush's points.
abbrev pub world_limit : ℕ
world_limit = 4096

-- Brushes lie in the cube from -4096 to 4096.
abbrev pub world : ℤ
world = pos world_limit

-- The greatest size of a coordinate of the points that a face is given by.
abbrev pub point_limit : ℕ
point_limit = 4352

-- The points that faces are given by lie in the cube from -4352 to 4352.
abbrev pub reach : ℤ
reach = pos point_limit
