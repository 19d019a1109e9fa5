-- The rows of signed permutations.
use Rattle.std.specs.Prelude.{List, slice_index_or, pos, negsuc}
use Rattle.algebra.specs.Space.{Vector}
use Rattle.exact_geom.specs.declared.axis.Axis.TheVariants.{X as AlongX, Y as AlongY, Z as AlongZ}
use Rattle.orient48.specs.declared.row.Row.{Row}
use Rattle.orient48.specs.declared.row.Row.TheVariants.{X, MinusX, Y, MinusY, Z, MinusZ}
use Rattle.orient48.specs.Motions.{Matrix}
use Rattle.orient48.specs.Orients.{taking}

-- The row by its numbers.
abbrev pub row_vector : Row → Vector
row_vector X = taking AlongX (pos 1)
row_vector MinusX = taking AlongX (negsuc 0)
row_vector Y = taking AlongY (pos 1)
row_vector MinusY = taking AlongY (negsuc 0)
row_vector Z = taking AlongZ (pos 1)
row_vector MinusZ = taking AlongZ (negsuc 0)

-- The matrix of three rows.
abbrev pub matrix_of_rows : List Row → Matrix
matrix_of_rows rows = record {
  x = row_vector (slice_index_or rows 0 X);
  y = row_vector (slice_index_or rows 1 X);
  z = row_vector (slice_index_or rows 2 X);
}
