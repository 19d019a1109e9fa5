use Rattle.std.proofs.Common.{ℕ}
use Rattle.half_arena.specs.Slots.{contents}
use Rattle.orient48.specs.Motions.{Motion}
use Rattle.half_poly.specs.Moving.{CanMove, MovedBelow}
use Rattle.half_poly.proofs.moving.move_vertices.Given as goal

abbrev pub invariant-loop-place : goal.invariant-loop-place
invariant-loop-place l = (r : Motion) → ((x : ℕ) → CanMove r (contents l.faces) l.order l.names (contents l.initial.vertices) x) → MovedBelow r (contents l.initial.vertices) (contents l.vertices) l.place
