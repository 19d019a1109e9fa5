use Rattle.std.proofs.Common.{[], length, take}
use Rattle.tree_file.specs.Passes.{ChildCounts}
use Rattle.tree_file.proofs.empty.add_children.Given as goal

abbrev pub invariant-loop-item : goal.invariant-loop-item
invariant-loop-item l = ChildCounts (length l.items) (take l.item-index l.items) [] l.counts
