use Rattle.std.proofs.Common.{◌≡◌, ◌≤◌, ℕ, ◌+◌, length, drop}
use Rattle.map_nodes.specs.Nodes.{number_in}
use Rattle.map_model.specs.Edits.{renumbered, numbered_from}
use Rattle.tree_node.proofs.copies.new_numbers.Given as goal

abbrev pub invariant-loop-left : goal.invariant-loop-left
invariant-loop-left l = record {
  within : l.left ≤ length l.ids;
  numbers : (q : ℕ) → number_in l.table q ≡ renumbered (numbered_from (l.fn.first + l.left) (drop l.left l.ids)) q;
}

abbrev pub decreases-loop-left : goal.decreases-loop-left
decreases-loop-left l = l.left
