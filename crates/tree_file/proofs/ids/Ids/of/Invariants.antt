use Rattle.std.proofs.Common.{◌≡◌, ◌≤◌, ℕ, ◌+◌, length, drop, nat_eq, unwrap_or}
use Rattle.std.specs.HashMap.{get}
use Rattle.map_model.specs.Saved.{count_to}
use Rattle.tree_file.proofs.ids.Ids.of.Given as goal

abbrev pub invariant-loop-left : goal.invariant-loop-left
invariant-loop-left l = record {
  within : l.left ≤ length l.named;
  counts : (n : ℕ) → unwrap_or (get nat_eq l.table n) (length l.named + 1) ≡ l.left + count_to n (drop l.left l.named);
}

abbrev pub decreases-loop-left : goal.decreases-loop-left
decreases-loop-left l = l.left
