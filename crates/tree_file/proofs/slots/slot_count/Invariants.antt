use Rattle.std.proofs.Common.{◌≡◌, take}
use Rattle.tree_file.proofs.Drawing.{sizes}
use Rattle.tree_file.proofs.slots.slot_count.Given as goal

abbrev pub invariant-loop-item : goal.invariant-loop-item
invariant-loop-item l = l.count ≡ sizes (take l.item-index l.kept)
