use Rattle.key_table.proofs.Twins.{NoTwinBefore}
use Rattle.key_table.proofs.keys.has_twins.Given as goal

abbrev pub invariant-loop-place : goal.invariant-loop-place
invariant-loop-place l = NoTwinBefore l.words l.place
