use Rattle.std.proofs.Common.{◌≡◌, ℕ, ◌≤◌, length, take, drop}
use Rattle.outside_io.specs.Moved.{Grew}
use Rattle.outside_io.proofs.whole.give_all.Given as goal

abbrev pub invariant-loop-rest : goal.invariant-loop-rest
invariant-loop-rest g l =
    ((n : ℕ) × (n ≤ length l.bytes) × (l.rest ≡ drop n l.bytes) × Grew (g.R.Sink.given l.initial.sink) (g.R.Sink.given l.sink) (take n l.bytes))
    × (g.R.Sink.faults l.sink ≡ g.R.Sink.faults l.initial.sink)

abbrev pub decreases-loop-rest : goal.decreases-loop-rest
decreases-loop-rest g l = length l.rest
