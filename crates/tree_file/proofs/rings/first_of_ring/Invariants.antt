use Rattle.tree_file.proofs.RingWalk.{Round}
use Rattle.tree_file.proofs.rings.first_of_ring.Given as goal

abbrev pub invariant-loop-step : goal.invariant-loop-step
invariant-loop-step l = Round l.parents l.fn.place l.first l.above l._step
