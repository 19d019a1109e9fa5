use Rattle.hull_merge.proofs.Gathering.{Gathering}
use Rattle.hull_merge.proofs.solids.all_points.Given as goal

abbrev pub invariant-loop-k : goal.invariant-loop-k
invariant-loop-k l = Gathering l.list l.k l.all.items
