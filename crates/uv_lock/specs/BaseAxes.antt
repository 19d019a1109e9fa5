-- The texture axes that a face has by its normal.
use Rattle.std.specs.Prelude.{◌≡◌, Bool, ℤ, pos, negsuc, ◌≤ℤ◌, ◌<ℤ◌, int_le, List, [], ◌∷◌, ◌++◌, Option, Some}
use Rattle.std.specs.Option.{option_map}
use Rattle.std.specs.List.{find, list_all}
use Rattle.algebra.specs.Members.{Every}
use Rattle.algebra.specs.Space.{Vector, dot}
use Rattle.exact_geom.specs.Planes.{parts}

-- The six main directions: x grows to the east, y to the north, z upwards.
abbrev pub east : Vector
east = record { x = pos 1; y = pos 0; z = pos 0 }

abbrev pub west : Vector
west = record { x = negsuc 0; y = pos 0; z = pos 0 }

abbrev pub north : Vector
north = record { x = pos 0; y = pos 1; z = pos 0 }

abbrev pub south : Vector
south = record { x = pos 0; y = negsuc 0; z = pos 0 }

abbrev pub up : Vector
up = record { x = pos 0; y = pos 0; z = pos 1 }

abbrev pub down : Vector
down = record { x = pos 0; y = pos 0; z = negsuc 0 }

-- A row of the table: a main direction, and the texture axes U and V of the faces that look there.
pub record Row : Type 0 where
  pub normal : Vector
  pub u : Vector
  pub v : Vector

-- The table, in its order.
abbrev pub table : List Row
table =
    record { normal = up; u = east; v = south } ∷
    record { normal = down; u = east; v = south } ∷
    record { normal = east; u = north; v = down } ∷
    record { normal = west; u = north; v = down } ∷
    record { normal = north; u = east; v = down } ∷
    record { normal = south; u = east; v = down } ∷ []

-- The axes U and V of a row, each by its coordinates.
abbrev pub axes_of : Row → List (List ℤ)
axes_of row = parts row.u ∷ parts row.v ∷ []

-- No row's normal has a greater dot product with n.
abbrev pub is_greatest : Vector → Row → Bool
is_greatest n row = list_all (λ other. int_le (dot other.normal n) (dot row.normal n)) table

-- The axes at the normal n: those of the first row with the greatest dot product.
unfoldable pub base_axes_of : Vector → Option (List (List ℤ))
base_axes_of n = option_map axes_of (find (is_greatest n) table)

-- The row wins at the normal n: its dot product is at least each row's, and greater than each earlier row's.
pub record Wins (n : Vector) (winner : Row) : Type 0 where
  pub earlier : List Row
  pub later : List Row
  pub place : table ≡ earlier ++ winner ∷ later
  pub greatest : Every (λ row. dot row.normal n ≤ℤ dot winner.normal n) table
  pub first : Every (λ row. dot row.normal n <ℤ dot winner.normal n) earlier

-- At each normal a row wins, and the axes there are those of the row that wins.
pub record WinnerGivesAxes : Type 0 where
  pub some_row_wins : (n : Vector) → (row : Row) × Wins n row
  pub axes : (n : Vector) (row : Row) → Wins n row → base_axes_of n ≡ Some (axes_of row)
