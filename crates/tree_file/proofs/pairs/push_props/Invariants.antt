use Rattle.std.proofs.Common.{◌≡◌, ◌++◌, take}
use Rattle.tree_file.proofs.pairs.push_props.Given as goal

abbrev pub invariant-loop-k : goal.invariant-loop-k
invariant-loop-k l = l.pairs.items ≡ l.fn.pairs.items ++ take l.k l.props
