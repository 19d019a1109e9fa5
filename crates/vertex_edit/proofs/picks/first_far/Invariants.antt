use Rattle.std.proofs.Common.{ℕ, ◌<◌, get_or}
use Rattle.hull_merge.specs.Hulls.{zero_point}
use Rattle.vertex_edit.specs.Places.{GoesInRange}
use Rattle.vertex_edit.proofs.picks.first_far.Given as goal

abbrev pub invariant-loop-k : goal.invariant-loop-k
invariant-loop-k l = (j : ℕ) → j < l.k → GoesInRange l.shift (get_or l.picks j zero_point)
