use Rattle.std.proofs.Common.{◌≡◌, length}
use Rattle.half_arena.specs.Slots.{contents}
use Rattle.half_poly.specs.Rounds.{LeastBelow}
use Rattle.half_poly.proofs.loops.note_all_least.Given as goal

abbrev pub invariant-loop-place : goal.invariant-loop-place
invariant-loop-place l = (length l.table ≡ length l.initial.table) × LeastBelow (contents l.edges) l.numbers l.table l.place
