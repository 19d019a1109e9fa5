use Rattle.std.proofs.Common.{◌≡◌, ℕ, ◌<◌, get_or}
use Rattle.algebra.specs.Space.{Homogeneous}
use Rattle.hull_merge.specs.Gathered.{whole_of}
use Rattle.vertex_edit.proofs.picks.is_vertex.Given as goal

abbrev pub invariant-loop-vertex : goal.invariant-loop-vertex
invariant-loop-vertex l = (j : ℕ) → j < l.vertex-index → (d : Homogeneous) → ¬ (get_or l.vertices j d ≡ whole_of l.p)
