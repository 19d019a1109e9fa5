use Rattle.std.proofs.Common.{map}
use Rattle.half_arena.specs.Slots.{contents}
use Rattle.half_poly.specs.Walls.{cube_edge}
use Rattle.half_poly.proofs.Putting.{Writing}
use Rattle.half_poly.proofs.build.link_edges.Given as goal

abbrev pub invariant-loop-edge : goal.invariant-loop-edge
invariant-loop-edge l = Writing (map (λ id. id.0) l.ids) (cube_edge l.corners l.walls l.ids) (contents l.edges) l.edge 24
