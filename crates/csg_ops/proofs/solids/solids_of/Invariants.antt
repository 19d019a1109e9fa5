use Rattle.std.proofs.Common.{length}
use Rattle.csg_ops.proofs.Overfull.{AreFirst}
use Rattle.csg_ops.proofs.solids.solids_of.Given as goal

abbrev pub invariant-loop-block : goal.invariant-loop-block
invariant-loop-block l = AreFirst l.fn.blocks.items (length l.yielded) l.solids.items
