use Rattle.tree_file.proofs.RingMarks.{unmet_count, Walking}
use Rattle.tree_file.proofs.rings.walk_up.Given as goal

abbrev pub invariant-loop-place : goal.invariant-loop-place
invariant-loop-place l = Walking l.parents l.fn.met l.start l.met l.place

abbrev pub decreases-loop-place : goal.decreases-loop-place
decreases-loop-place l = unmet_count l.met
