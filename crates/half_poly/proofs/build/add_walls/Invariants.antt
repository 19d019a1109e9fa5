use Rattle.std.proofs.Common.{map}
use Rattle.half_arena.specs.Slots.{contents}
use Rattle.half_poly.specs.Puts.{PutBelow}
use Rattle.half_poly.specs.Walls.{unbegun_walls}
use Rattle.half_poly.proofs.build.add_walls.Given as goal

abbrev pub invariant-loop-number : goal.invariant-loop-number
invariant-loop-number l = PutBelow (contents l.initial.faces) unbegun_walls (contents l.faces) (map (λ id. id.0) l.ids.items) l.number
