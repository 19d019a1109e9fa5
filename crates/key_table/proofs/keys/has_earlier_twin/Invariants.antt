use Rattle.std.proofs.Common.{◌≡◌, ℕ, ◌<◌, []}
use Rattle.std.specs.Prelude.{slice_index_or}
use Rattle.key_table.proofs.keys.has_earlier_twin.Given as goal

abbrev pub invariant-loop-earlier : goal.invariant-loop-earlier
invariant-loop-earlier l = (k : ℕ) → k < l.earlier → slice_index_or l.words k [] ≡ slice_index_or l.words l.place [] → ⊥
