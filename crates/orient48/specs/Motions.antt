-- Motions: a signed permutation of the coordinates, and then a shift. A motion has no bound here; where one is kept, its shift has.
use Rattle.std.specs.Prelude.{ℕ, zero, suc, Bool, ◌&&◌, ◌||◌, ◌==◌, nat_le, cond, ℤ, pos, negsuc, ◌+ℤ◌, unsigned_abs}
use Rattle.std.specs.Ordering.{int_eq}
use Rattle.algebra.specs.Space.{Vector, Homogeneous, HalfSpace, dot, det, plus, minus, scale}
use Rattle.exact_geom.specs.declared.axis.Axis.{Axis}
use Rattle.exact_geom.specs.declared.axis.Axis.TheVariants.{X, Y, Z}
use Rattle.exact_geom.specs.declared.point.Point.{Point}
use Rattle.exact_geom.specs.Planes.{ThreePoints, vector}

-- A matrix by its rows: those that give x, y and z.
pub record Matrix : Type 0 where
  pub x : Vector
  pub y : Vector
  pub z : Vector

-- The matrix times a vector.
abbrev pub turned : Matrix → Vector → Vector
turned m v = record { x = dot m.x v; y = dot m.y v; z = dot m.z v }

-- The columns as rows. Of a signed permutation it is the inverse.
abbrev pub transposed : Matrix → Matrix
transposed m = record {
  x = record { x = m.x.x; y = m.y.x; z = m.z.x };
  y = record { x = m.x.y; y = m.y.y; z = m.z.y };
  z = record { x = m.x.z; y = m.y.z; z = m.z.z };
}

-- The matrix that does `first` and then `second`.
abbrev pub product : Matrix → Matrix → Matrix
product second first =
    let columns = transposed first in
    record {
      x = record { x = dot second.x columns.x; y = dot second.x columns.y; z = dot second.x columns.z };
      y = record { x = dot second.y columns.x; y = dot second.y columns.y; z = dot second.y columns.z };
      z = record { x = dot second.z columns.x; y = dot second.z columns.y; z = dot second.z columns.z };
    }

-- The matrix turns left into right.
abbrev pub is_flip : Matrix → Bool
is_flip m = int_eq (det m.x m.y m.z) (negsuc 0)

-- The vector of three numbers.
abbrev pub vector_at : ℤ → ℤ → ℤ → Vector
vector_at x y z = record { x = x; y = y; z = z }

-- The matrix that changes nothing.
abbrev pub unturned : Matrix
unturned = record { x = vector_at (pos 1) (pos 0) (pos 0); y = vector_at (pos 0) (pos 1) (pos 0); z = vector_at (pos 0) (pos 0) (pos 1) }

-- One of three numbers is 1 or -1, and the others are 0.
abbrev pub is_unit : Vector → Bool
is_unit v =
    let x = unsigned_abs v.x in let y = unsigned_abs v.y in let z = unsigned_abs v.z in
    (x == 1 && (y == 0 && z == 0)) || ((x == 0 && (y == 1 && z == 0)) || (x == 0 && (y == 0 && z == 1)))

-- Each row and each column has one number that isn't 0, and it is 1 or -1.
abbrev pub is_signed_permutation : Matrix → Bool
is_signed_permutation m =
    let columns = transposed m in
    (is_unit m.x && (is_unit m.y && is_unit m.z)) && (is_unit columns.x && (is_unit columns.y && is_unit columns.z))

-- A point x goes to M x + t.
pub record Motion : Type 0 where
  pub matrix : Matrix
  pub shift : Vector

-- The motion that changes nothing.
abbrev pub stay : Motion
stay = record { matrix = unturned; shift = vector_at (pos 0) (pos 0) (pos 0) }

-- Each point goes by the shift.
abbrev pub shifting : Vector → Motion
shifting shift = record { matrix = unturned; shift = shift }

-- The motion that does `first` and then `second`.
abbrev pub after : Motion → Motion → Motion
after second first = record {
  matrix = product second.matrix first.matrix;
  shift = plus (turned second.matrix first.shift) second.shift;
}

-- The way back.
abbrev pub back : Motion → Motion
back m = let matrix = transposed m.matrix in record { matrix = matrix; shift = scale (negsuc 0) (turned matrix m.shift) }

-- From where `from` leads to where `to` leads.
abbrev pub between : Motion → Motion → Motion
between from to = after to (back from)

-- The greatest size of a coordinate of a kept motion's shift, in map units.
abbrev pub shift_limit : ℕ
shift_limit = 1000000

abbrev pub is_short : Vector → Bool
is_short v = nat_le (unsigned_abs v.x) shift_limit && (nat_le (unsigned_abs v.y) shift_limit && nat_le (unsigned_abs v.z) shift_limit)

-- What a kept motion keeps.
abbrev pub is_kept_motion : Motion → Bool
is_kept_motion m = is_signed_permutation m.matrix && is_short m.shift

-- A quarter turn about an axis.
abbrev pub quarter : Axis → Matrix
quarter X = record { x = vector_at (pos 1) (pos 0) (pos 0); y = vector_at (pos 0) (pos 0) (negsuc 0); z = vector_at (pos 0) (pos 1) (pos 0) }
quarter Y = record { x = vector_at (pos 0) (pos 0) (pos 1); y = vector_at (pos 0) (pos 1) (pos 0); z = vector_at (negsuc 0) (pos 0) (pos 0) }
quarter Z = record { x = vector_at (pos 0) (negsuc 0) (pos 0); y = vector_at (pos 1) (pos 0) (pos 0); z = vector_at (pos 0) (pos 0) (pos 1) }

-- So many quarter turns about an axis.
abbrev pub quarters : Axis → ℕ → Matrix
quarters axis zero = unturned
quarters axis (suc n) = product (quarter axis) (quarters axis n)

-- So many quarter turns about the axis through a point.
abbrev pub turning : Axis → ℕ → Vector → Motion
turning axis n about = let matrix = quarters axis n in record { matrix = matrix; shift = minus about (turned matrix about) }

-- The coordinate along the axis changes its sign.
abbrev pub flipped : Axis → Matrix
flipped X = record unturned { x = vector_at (negsuc 0) (pos 0) (pos 0) }
flipped Y = record unturned { y = vector_at (pos 0) (negsuc 0) (pos 0) }
flipped Z = record unturned { z = vector_at (pos 0) (pos 0) (negsuc 0) }

-- A vector along the axis.
abbrev pub along : Axis → ℤ → Vector
along X c = vector_at c (pos 0) (pos 0)
along Y c = vector_at (pos 0) c (pos 0)
along Z c = vector_at (pos 0) (pos 0) c

-- The coordinate c becomes 2 * at - c.
abbrev pub flipping : Axis → ℤ → Motion
flipping axis at = record { matrix = flipped axis; shift = along axis (at +ℤ at) }

-- The point of a vector.
abbrev pub point_at : Vector → Point
point_at v = record { x = v.x; y = v.y; z = v.z }

-- Where a point goes.
abbrev pub moved_point : Motion → Point → Point
moved_point m p = point_at (plus (turned m.matrix (vector p)) m.shift)

-- Three points of a plane, moved; a flip also swaps the first and the last.
abbrev pub moved_plane : Motion → ThreePoints → ThreePoints
moved_plane m t =
    let a = moved_point m t.p0 in let b = moved_point m t.p1 in let c = moved_point m t.p2 in
    cond (is_flip m.matrix) (record { p0 = c; p1 = b; p2 = a }) (record { p0 = a; p1 = b; p2 = c })

-- Where a homogeneous point goes.
abbrev pub moved_at : Motion → Homogeneous → Homogeneous
moved_at m p = record { vector = plus (turned m.matrix p.vector) (scale p.weight m.shift); weight = p.weight }

-- The half-space that has at each moved point the side that the old one had at the point.
abbrev pub moved_half : Motion → HalfSpace → HalfSpace
moved_half m f = record { normal = turned m.matrix f.normal; distance = f.distance +ℤ dot (turned m.matrix f.normal) m.shift }
