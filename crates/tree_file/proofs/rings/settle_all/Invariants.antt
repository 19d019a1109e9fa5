use Rattle.tree_file.specs.RingMarks.{Settled}
use Rattle.tree_file.proofs.rings.settle_all.Given as goal

abbrev pub invariant-loop-start : goal.invariant-loop-start
invariant-loop-start l = Settled l.parents l.start l.met l.breaks
