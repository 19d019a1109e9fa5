use Rattle.std.proofs.Common.{length, take}
use Rattle.tree_file.specs.Passes.{Children}
use Rattle.tree_file.proofs.children.add_children.Given as goal

abbrev pub invariant-loop-item : goal.invariant-loop-item
invariant-loop-item l = Children (length l.fn.lists) l.kept (take l.item-index l.kept) l.lists
