use Rattle.tree_ops.proofs.Lists.{Pushed}
use Rattle.tree_ops.proofs.named.push_all.Given as goal

abbrev pub invariant-loop-number : goal.invariant-loop-number
invariant-loop-number l = Pushed l.fn.ids.items l.number-items l.ids.items l.number-index
