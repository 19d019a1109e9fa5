use Rattle.std.proofs.Common.{length, take}
use Rattle.tree_file.specs.Passes.{Tells}
use Rattle.tree_file.proofs.dropped.raise_flags.Given as goal

abbrev pub invariant-loop-place : goal.invariant-loop-place
invariant-loop-place l = Tells (length l.fn.flags) (take l.place-index l.places) l.flags
