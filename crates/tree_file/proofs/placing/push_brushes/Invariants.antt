use Rattle.std.proofs.Common.{◌≡◌, ◌++◌, length, take}
use Rattle.tree_file.proofs.Pushing.{placed_brushes}
use Rattle.tree_file.proofs.placing.push_brushes.Given as goal

abbrev pub invariant-loop-brush : goal.invariant-loop-brush
invariant-loop-brush l = l.slots.items ≡ l.fn.slots.items ++ placed_brushes l.fn.parent (take (length l.yielded) l.fn.brushes.items)
