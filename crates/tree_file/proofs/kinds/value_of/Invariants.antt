use Rattle.std.proofs.Common.{◌≡◌, drop}
use Rattle.map_text.specs.Meaning.{value_of_key}
use Rattle.tree_file.proofs.kinds.value_of.Given as goal

abbrev pub invariant-props : goal.invariant-props
invariant-props l = value_of_key l.key l.props ≡ value_of_key l.key (drop l.name-index l.props)
