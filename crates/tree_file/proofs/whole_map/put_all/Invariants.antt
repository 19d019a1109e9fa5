use Rattle.std.proofs.Common.{◌≡◌, length}
use Rattle.tree_file.proofs.Filling.{Filling}
use Rattle.tree_file.proofs.whole_map.put_all.Given as goal

abbrev pub invariant-loop-slot : goal.invariant-loop-slot
invariant-loop-slot l = record {
  number : l.number ≡ length l.yielded;
  filling : Filling l.fn.slots.items (length l.yielded) l.fn.change l.change;
}
