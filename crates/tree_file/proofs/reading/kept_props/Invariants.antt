use Rattle.std.proofs.Common.{◌≡◌, take, length}
use Rattle.file_laws.specs.Readings.{kept_props}
use Rattle.tree_file.specs.Kinds.{kind_of_part}
use Rattle.tree_file.proofs.reading.kept_props.Given as goal

abbrev pub invariant-loop-key : goal.invariant-loop-key
invariant-loop-key l = l.kept ≡ kept_props (kind_of_part l.part) (take (length l.yielded) l.fn.props)
