-- Vertices: reduced homogeneous points.
use Rattle.std.specs.Prelude.{◌≡◌, ℕ, ◌≤◌, ℤ, pos, ◌≤ℤ◌, unsigned_abs}
use Rattle.std.specs.Int.{◌∣◌}
use Rattle.algebra.specs.Space.{Homogeneous, side}
use Rattle.exact_geom.specs.Limits.{coordinate_limit, weight_limit}
use Rattle.exact_geom.specs.Planes.{ThreePoints, half_space}

-- The point (x / w, y / w, z / w).
abbrev pub homogeneous : ℤ → ℤ → ℤ → ℤ → Homogeneous
homogeneous x y z w = record { vector = record { x = x; y = y; z = z }; weight = w }

-- Only 1 divides all four numbers of the point.
abbrev pub IsReduced : Homogeneous → Type 0
IsReduced p =
    (d : ℕ) → d ∣ unsigned_abs p.vector.x → d ∣ unsigned_abs p.vector.y → d ∣ unsigned_abs p.vector.z → d ∣ unsigned_abs p.weight → d ≡ 1

-- The coordinates are at most the coordinate limit in size, and the weight is at most the weight limit.
pub record IsBounded (p : Homogeneous) : Type 0 where
  pub x : unsigned_abs p.vector.x ≤ coordinate_limit
  pub y : unsigned_abs p.vector.y ≤ coordinate_limit
  pub z : unsigned_abs p.vector.z ≤ coordinate_limit
  pub weight : unsigned_abs p.weight ≤ weight_limit

-- What each vertex is.
pub record IsReducedVertex (p : Homogeneous) : Type 0 where
  pub positive : pos 1 ≤ℤ p.weight
  pub reduced : IsReduced p
  pub bounded : IsBounded p

-- The vertex of three planes: the reduced point on all of them.
pub record IsVertexOf (a b c : ThreePoints) (p : Homogeneous) : Type 0 where
  pub on_first : side (half_space a) p ≡ pos 0
  pub on_second : side (half_space b) p ≡ pos 0
  pub on_third : side (half_space c) p ≡ pos 0
  pub vertex : IsReducedVertex p
