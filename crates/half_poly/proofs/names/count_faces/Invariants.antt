use Rattle.std.proofs.Common.{◌≡◌, length}
use Rattle.half_arena.specs.Slots.{contents}
use Rattle.half_poly.specs.Names.{NamesBelow}
use Rattle.half_poly.proofs.names.count_faces.Given as goal

abbrev pub invariant-loop-place : goal.invariant-loop-place
invariant-loop-place l = (length l.names ≡ length l.initial.names) × NamesBelow (contents l.edges) l.numbers l.count l.names l.place
