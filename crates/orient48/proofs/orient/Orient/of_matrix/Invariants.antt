use Rattle.std.proofs.Common.{◌≢◌, ℕ, ◌<◌}
use Rattle.orient48.specs.Kept.{matrix_in}
use Rattle.orient48.specs.Orients.{matrix_of}
use Rattle.orient48.proofs.orient.Orient.of_matrix.Given as goal

abbrev pub invariant-loop-number : goal.invariant-loop-number
invariant-loop-number l = (k : ℕ) → k < l.number → matrix_of k ≢ matrix_in l.rows
