use Rattle.std.proofs.Common.{◌≡◌, ◌≤◌, ◌++◌, length, drop}
use Rattle.tree_node.specs.Walk.{stacked}
use Rattle.tree_node.proofs.preorder.push_last_first.Given as goal

abbrev pub invariant-loop-left : goal.invariant-loop-left
invariant-loop-left l = record {
  within : l.left ≤ length l.ids;
  stack : l.waiting.items ≡ l.fn.waiting.items ++ stacked l.fn.levels (drop l.left l.ids);
}

abbrev pub decreases-loop-left : goal.decreases-loop-left
decreases-loop-left l = l.left
