-- The 48 signed permutations by their numbers.
use Rattle.std.specs.Prelude.{ℕ, ◌/◌, ◌%◌, ◌==◌, cond, List, [], ◌∷◌, slice_index_or, ℤ, pos, negsuc}
use Rattle.algebra.specs.Space.{Vector}
use Rattle.exact_geom.specs.declared.axis.Axis.{Axis}
use Rattle.exact_geom.specs.declared.axis.Axis.TheVariants.{X, Y, Z}
use Rattle.orient48.specs.Motions.{Matrix, vector_at}

-- The count of them.
abbrev pub orient_count : ℕ
orient_count = 48

-- Which part of a vector becomes the first, the second and the third.
pub record Order : Type 0 where
  pub x : Axis
  pub y : Axis
  pub z : Axis

-- The six orders of three parts, in lexicographic order from 0.
abbrev pub orders : List Order
orders =
    record { x = X; y = Y; z = Z } ∷ record { x = X; y = Z; z = Y } ∷ record { x = Y; y = X; z = Z }
    ∷ record { x = Y; y = Z; z = X } ∷ record { x = Z; y = X; z = Y } ∷ record { x = Z; y = Y; z = X } ∷ []

-- 1, or -1 where the bit is set.
abbrev pub sign_at : (bit : ℕ) → ℤ
sign_at bit = cond (bit == 0) (pos 1) (negsuc 0)

-- The row that takes one part of a vector, under a sign.
abbrev pub taking : Axis → (sign : ℤ) → Vector
taking X sign = vector_at sign (pos 0) (pos 0)
taking Y sign = vector_at (pos 0) sign (pos 0)
taking Z sign = vector_at (pos 0) (pos 0) sign

-- The matrix of the number 8 * p + s: row i takes the part that the order p has at i, and its sign is minus where bit i of s is set.
abbrev pub matrix_of : ℕ → Matrix
matrix_of n =
    let order = slice_index_or orders (n / 8) (record { x = X; y = Y; z = Z }) in
    record {
      x = taking order.x (sign_at (n % 2));
      y = taking order.y (sign_at (n / 2 % 2));
      z = taking order.z (sign_at (n / 4 % 2));
    }
