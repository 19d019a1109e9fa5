use Rattle.std.proofs.Common.{length, ◌-◌}
use Rattle.tree_file.proofs.EmptyGroups.{Going}
use Rattle.tree_file.proofs.empty.empty_groups.Given as goal

abbrev pub invariant-loop-next : goal.invariant-loop-next
invariant-loop-next l = Going l.items l.next l.goes.items l.counts.items

abbrev pub decreases-loop-next : goal.decreases-loop-next
decreases-loop-next l = length l.items - l.next
