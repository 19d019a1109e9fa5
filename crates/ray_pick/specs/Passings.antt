-- How a ray passes the planes of a solid, in numbers.
use Rattle.std.specs.Prelude.{◌≡◌, ℕ, ◌*◌, ◌^◌, ◌<◌, List, pos, ◌-ℤ◌, ◌<ℤ◌, ◌≤ℤ◌, unsigned_abs}
use Rattle.algebra.specs.Members.{◌∈◌}
use Rattle.algebra.specs.Space.{Vector, HalfSpace, side, whole_point}
use Rattle.exact_geom.specs.Limits.{normal_limit, difference_limit}
use Rattle.trim_laws.specs.Solid.{IsIn}
use Rattle.ray_pick.specs.declared.passing.Passing.{Passing}
use Rattle.ray_pick.specs.Rays.{Fraction, point_at, IsOnRay, IsEarlier}

-- A normal times a difference of points: 3,956,470,185,984, below 2^42.
abbrev pub way_limit : ℕ
way_limit = 3 * (normal_limit * difference_limit)

-- The side of the ray's first point, and by how much less that of the second one is.
pub record Passes (f : HalfSpace) (from to : Vector) (p : Passing) : Type 0 where
  pub start : p.start ≡ side f (whole_point from)
  pub fall : p.fall ≡ side f (whole_point from) -ℤ side f (whole_point to)

-- Both numbers are below 2^42 in size.
pub record IsSmall (p : Passing) : Type 0 where
  pub start : unsigned_abs p.start < 2 ^ 42
  pub fall : unsigned_abs p.fall < 2 ^ 42

-- The fraction of the way at which the ray is on the plane.
abbrev pub place : Passing → Fraction
place p = record { num = p.start; den = p.fall }

-- The ray runs inward where it passes the plane.
abbrev pub IsInward : HalfSpace → (from to : Vector) → Type 0
IsInward f from to = side f (whole_point to) <ℤ side f (whole_point from)

-- There the ray is past all planes that it passes inward, and no earlier point of it is in the solid.
pub record IsEntry (F : List HalfSpace) (from to : Vector) (p : Passing) : Type 0 where
  pub on_ray : IsOnRay (place p)
  pub small : IsSmall p
  pub passed : (f : HalfSpace) → f ∈ F → IsInward f from to → side f (point_at from to (place p)) ≤ℤ pos 0
  pub first : (u : Fraction) → IsOnRay u → IsIn F (point_at from to u) → ¬ (IsEarlier u (place p))
