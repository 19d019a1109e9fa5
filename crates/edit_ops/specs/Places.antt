-- The place of an entity as three counts of millionths.
use Rattle.std.specs.Prelude.{ℕ, cond, List, Option, None, Some, ℤ}
use Rattle.algebra.specs.Space.{Vector}
use Rattle.fixed_num.specs.Count.{is_number_word, count_of}
use Rattle.orient48.specs.Motions.{vector_at}
use Rattle.map_model.specs.Shape.{is_below_million}
use Rattle.edit_ops.specs.declared.places.Place.{Place}

-- The three counts as a vector.
abbrev pub counts_of : Place → Vector
counts_of p = vector_at p.x p.y p.z

-- The count, where it is below 10^12 in size.
abbrev pub small : ℤ → Option ℤ
small count = cond (is_below_million 1000000 count) (Some count) None

-- The count of a number word, where it is below 10^12 in size.
abbrev pub count_in : List ℕ → Option ℤ
count_in word = cond (is_number_word word) (small (count_of 6 word)) None
