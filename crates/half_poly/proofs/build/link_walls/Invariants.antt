use Rattle.std.proofs.Common.{map}
use Rattle.half_arena.specs.Slots.{contents}
use Rattle.half_poly.specs.Walls.{cube_wall}
use Rattle.half_poly.proofs.Putting.{Writing}
use Rattle.half_poly.proofs.build.link_walls.Given as goal

abbrev pub invariant-loop-number : goal.invariant-loop-number
invariant-loop-number l = Writing (map (λ id. id.0) l.walls) (cube_wall l.ids) (contents l.faces) l.number 6
