-- Planes by three whole points on them.
use Rattle.std.specs.Prelude.{◌≡◌, ℕ, ℤ, pos, Bool, ◌&&◌, if◌then◌else◌, nat_le, unsigned_abs, List, [], ◌∷◌, Option, Some, None, Result, Ok, Err}
use Rattle.std.specs.Option.{option_map_or}
use Rattle.std.specs.Ordering.{int_eq}
use Rattle.algebra.specs.Space.{Vector, HalfSpace, through}
use Rattle.algebra.specs.World.{point_limit}
use Rattle.exact_geom.specs.declared.point.Point.{Point}
use Rattle.exact_geom.specs.declared.plane.PlaneFault.{PlaneFault}
use Rattle.exact_geom.specs.declared.plane.PlaneFault.TheVariants.{PointRange, Flat}

-- Three points, in the order in which a face of a map names them.
pub record ThreePoints : Type 0 where
  pub p0 : Point
  pub p1 : Point
  pub p2 : Point

-- The point as a vector.
abbrev pub vector : Point → Vector
vector p = record { x = p.x; y = p.y; z = p.z }

-- The half-space of a face: the normal is (p0 - p1) x (p2 - p1) and points out of the solid, the distance is normal . p1.
abbrev pub half_space : ThreePoints → HalfSpace
half_space t = through (vector t.p0) (vector t.p1) (vector t.p2)

-- Each coordinate is at most 4352 in size.
abbrev pub is_in_range : Point → Bool
is_in_range p = nat_le (unsigned_abs p.x) point_limit && nat_le (unsigned_abs p.y) point_limit && nat_le (unsigned_abs p.z) point_limit

-- The first of the three points that is out of range.
abbrev pub first_out_of_range : ThreePoints → Option ℕ
first_out_of_range t =
    if is_in_range t.p0 then if is_in_range t.p1 then if is_in_range t.p2 then None else Some 2 else Some 1 else Some 0

-- The zero vector.
abbrev pub is_zero : Vector → Bool
is_zero v = int_eq v.x (pos 0) && int_eq v.y (pos 0) && int_eq v.z (pos 0)

-- The three points lie on a line: the normal is zero.
abbrev pub is_flat : ThreePoints → Bool
is_flat t = is_zero (half_space t).normal

-- The plane of three points, or why there is none: the range is tried first.
abbrev pub plane_of : ThreePoints → Result ThreePoints PlaneFault
plane_of t = option_map_or (λ k. Err (PointRange k)) (first_out_of_range t) (if is_flat t then Err Flat else Ok t)

-- Three points of a plane: in range, and not on a line.
abbrev pub IsPlane : ThreePoints → Type 0
IsPlane t = plane_of t ≡ Ok t

-- The three coordinates in order.
abbrev pub parts : Vector → List ℤ
parts v = v.x ∷ v.y ∷ v.z ∷ []
