-- What numbers of 64 bits stand for, and their sizes.
use Rattle.std.specs.Prelude.{◌≡◌, Bool, ◌&&◌, ℕ, ◌+◌, ◌*◌, ◌<◌, ◌≤◌, int_lt, ℤ, pos, ◌*ℤ◌, ◌<ℤ◌, unsigned_abs}
use Rattle.std.specs.Int.{◌∣◌}
use Rattle.std.specs.Ordering.{int_eq}
use Rattle.algebra.specs.Space.{Vector, HalfSpace, Homogeneous, cross, dot}
use Rattle.exact_geom.specs.Limits.{dist_limit, normal_limit}
use Rattle.exact_geom.specs.declared.half_space.Vector64.{Vector64}
use Rattle.exact_geom.specs.declared.half_space.HalfSpace64.{HalfSpace64}
use Rattle.exact_geom.specs.Planes.{is_zero}

-- The vector of 64-bit numbers.
abbrev pub vector64 : Vector64 → Vector
vector64 d = record { x = d.x; y = d.y; z = d.z }

-- The half-space of 64-bit numbers.
abbrev pub half_space64 : HalfSpace64 → HalfSpace
half_space64 h = record { normal = vector64 h.normal; distance = h.distance }

-- Each coordinate is at most this in size.
pub record IsWithin (bound : ℕ) (v : Vector) : Type 0 where
  pub x : unsigned_abs v.x ≤ bound
  pub y : unsigned_abs v.y ≤ bound
  pub z : unsigned_abs v.z ≤ bound

-- The half-space is no larger than that of a plane.
pub record IsSmall (h : HalfSpace) : Type 0 where
  pub normal : IsWithin normal_limit h.normal
  pub distance : unsigned_abs h.distance ≤ dist_limit

-- The point p has the numbers of q, each times one factor that isn't 0.
pub record IsMultiple (p q : Homogeneous) : Type 0 where
  pub factor : ℤ
  pub nonzero : factor ≡ pos 0 → ⊥
  pub x : p.vector.x ≡ factor *ℤ q.vector.x
  pub y : p.vector.y ≡ factor *ℤ q.vector.y
  pub z : p.vector.z ≡ factor *ℤ q.vector.z
  pub weight : p.weight ≡ factor *ℤ q.weight

-- The greatest common divisor of the four numbers of p, with the sign of its weight.
pub record IsSignedDivisor (p : Homogeneous) (d : ℤ) : Type 0 where
  pub x : unsigned_abs d ∣ unsigned_abs p.vector.x
  pub y : unsigned_abs d ∣ unsigned_abs p.vector.y
  pub z : unsigned_abs d ∣ unsigned_abs p.vector.z
  pub weight : unsigned_abs d ∣ unsigned_abs p.weight
  pub greatest : (k : ℕ) → k ∣ unsigned_abs p.vector.x → k ∣ unsigned_abs p.vector.y → k ∣ unsigned_abs p.vector.z → k ∣ unsigned_abs p.weight → k ∣ unsigned_abs d
  pub same_sign : pos 0 <ℤ (d *ℤ p.weight)

-- The normals lie along one line.
abbrev pub is_parallel : HalfSpace → HalfSpace → Bool
is_parallel f g = is_zero (cross f.normal g.normal)

-- The normals have a dot product above 0.
abbrev pub is_along : HalfSpace → HalfSpace → Bool
is_along f g = int_lt (pos 0) (dot f.normal g.normal)

-- The distances are in the ratio of parallel normals.
abbrev pub is_level : HalfSpace → HalfSpace → Bool
is_level f g = int_eq (f.distance *ℤ dot g.normal g.normal) (g.distance *ℤ dot f.normal g.normal)

-- The test on two half-spaces by their numbers.
abbrev pub is_same : HalfSpace → HalfSpace → Bool
is_same f g = is_parallel f g && is_along f g && is_level f g

-- The multiple r of the grid that is nearest to size / weight, the greater one of two.
pub record IsHalfUp (size weight grid r : ℕ) : Type 0 where
  pub count : ℕ
  pub multiple : r ≡ count * grid
  pub low : 2 * (r * weight) ≤ 2 * size + grid * weight
  pub high : 2 * size + grid * weight < 2 * (r * weight) + 2 * (grid * weight)
