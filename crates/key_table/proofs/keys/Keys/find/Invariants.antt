use Rattle.std.proofs.Common.{◌-◌, ◌≤◌, length}
use Rattle.key_table.proofs.Search.{Excluded}
use Rattle.key_table.proofs.keys.Keys.find.Given as goal

-- the word isn't at a place of the order before `low` or from `high` on
abbrev pub invariant-loop-low : goal.invariant-loop-low
invariant-loop-low g l = (l.high ≤ length l.self-inside.order) × Excluded l.self-inside.words l.self-inside.order l.word l.low l.high

abbrev pub decreases-loop-low : goal.decreases-loop-low
decreases-loop-low g l = l.high - l.low
