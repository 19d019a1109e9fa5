use Rattle.std.proofs.Common.{◌≡◌, ◌≤◌, ℕ, length, drop, nat_eq}
use Rattle.std.specs.HashMap.{get}
use Rattle.tree_file.proofs.Placed.{places_from}
use Rattle.tree_file.proofs.parents.places_of_ids.Given as goal

abbrev pub invariant-loop-left : goal.invariant-loop-left
invariant-loop-left l = record {
  within : l.left ≤ length l.readings;
  table : (id : ℕ) → get nat_eq l.table id ≡ places_from (drop l.left l.readings) id;
}

abbrev pub decreases-loop-left : goal.decreases-loop-left
decreases-loop-left l = l.left
