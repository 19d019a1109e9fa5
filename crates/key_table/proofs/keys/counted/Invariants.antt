use Rattle.std.proofs.Common.{◌≡◌, ℕ, ◌<◌, length}
use Rattle.std.specs.Prelude.{slice_index}
use Rattle.key_table.proofs.keys.counted.Given as goal

abbrev pub invariant-loop-place : goal.invariant-loop-place
invariant-loop-place g l = (length l.places ≡ g.row.N) × ((k : ℕ) → k < l.place → slice_index l.places k ≡ k)
