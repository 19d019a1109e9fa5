use Rattle.std.proofs.Common.{◌≡◌, length}
use Rattle.half_arena.specs.Slots.{contents}
use Rattle.half_poly.specs.Turned.{BeforeBelow}
use Rattle.half_poly.proofs.turning.note_all_before.Given as goal

abbrev pub invariant-loop-place : goal.invariant-loop-place
invariant-loop-place l = record {
  long : length l.before ≡ length l.initial.before;
  noted : BeforeBelow (contents l.edges) l.before l.place;
}
