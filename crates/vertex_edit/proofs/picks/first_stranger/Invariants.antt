use Rattle.std.proofs.Common.{ℕ, ◌<◌, get_or}
use Rattle.algebra.specs.Members.{◌∈◌}
use Rattle.hull_merge.specs.Hulls.{zero_point}
use Rattle.hull_merge.specs.Gathered.{whole_of}
use Rattle.vertex_edit.proofs.picks.first_stranger.Given as goal

abbrev pub invariant-loop-k : goal.invariant-loop-k
invariant-loop-k l = (j : ℕ) → j < l.k → whole_of (get_or l.picks j zero_point) ∈ l.vertices
