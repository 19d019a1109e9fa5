use Rattle.std.proofs.Common.{◌≡◌, take}
use Rattle.map_model.specs.Shape.{joined_keys}
use Rattle.tree_file.proofs.props.joined.Given as goal

abbrev pub invariant-loop-k : goal.invariant-loop-k
invariant-loop-k l = l.text.items ≡ joined_keys (take l.k l.keys)
