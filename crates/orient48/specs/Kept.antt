-- The motions that are kept: the number of an orientation, and a shift by its three numbers.
use Rattle.std.specs.Prelude.{◌≡◌, ℕ, cond, IsTrue, List, [], ◌∷◌, length, slice_index_or, Option, Some, None, Result, Ok, Err, ℤ, pos}
use Rattle.std.specs.Option.{option_map_or}
use Rattle.algebra.specs.Space.{Vector}
use Rattle.exact_geom.specs.declared.plane.PlaneFault.{PlaneFault}
use Rattle.exact_geom.specs.declared.plane.PlaneFault.TheVariants.{PointRange, Flat}
use Rattle.exact_geom.specs.Planes.{ThreePoints, first_out_of_range, parts}
use Rattle.orient48.specs.Motions.{Matrix, Motion, vector_at, is_short}
use Rattle.orient48.specs.Orients.{matrix_of}

-- The vector of the numbers of a list of three.
abbrev pub vector_in : List ℤ → Vector
vector_in parts = vector_at (slice_index_or parts 0 (pos 0)) (slice_index_or parts 1 (pos 0)) (slice_index_or parts 2 (pos 0))

-- The matrix of a list of three rows, and the rows of a matrix.
abbrev pub matrix_in : List (List ℤ) → Matrix
matrix_in rows = record {
  x = vector_in (slice_index_or rows 0 []);
  y = vector_in (slice_index_or rows 1 []);
  z = vector_in (slice_index_or rows 2 []);
}

abbrev pub rows_of : Matrix → List (List ℤ)
rows_of m = parts m.x ∷ parts m.y ∷ parts m.z ∷ []

-- The motion of an orientation's number and a shift.
abbrev pub motion_at : (number : ℕ) → (shift : List ℤ) → Motion
motion_at number shift = record { matrix = matrix_of number; shift = vector_in shift }

-- Three numbers, each at most 1,000,000 in size.
pub record IsShift (shift : List ℤ) : Type 0 where
  pub three : length shift ≡ 3
  pub short : IsTrue (is_short (vector_in shift))

-- The motion, or none where a coordinate of its shift passes the limit.
abbrev pub within_limit : Motion → Option Motion
within_limit m = cond (is_short m.shift) (Some m) None

-- The three points, or the place of the one that is out of range. Three points that are moved are on a line only if they were.
abbrev pub place_of_fault : Result ThreePoints PlaneFault → Result ThreePoints ℕ
place_of_fault (Ok t) = Ok t
place_of_fault (Err (PointRange k)) = Err k
place_of_fault (Err Flat) = Err 0

-- The three points, or the place of the first that a plane can't be given by.
abbrev pub within_reach : ThreePoints → Result ThreePoints ℕ
within_reach t = option_map_or Err (first_out_of_range t) (Ok t)
