use Rattle.std.proofs.Common.{◌≡◌, [], replicate}
use Rattle.tree_file.proofs.children.empty_lists.Given as goal

abbrev pub invariant-loop-place : goal.invariant-loop-place
invariant-loop-place l = l.lists.items ≡ replicate l._place []
