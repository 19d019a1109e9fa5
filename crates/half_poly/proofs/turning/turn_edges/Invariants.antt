use Rattle.std.specs.Option.{option_map}
use Rattle.half_arena.specs.Slots.{contents}
use Rattle.half_poly.specs.Passes.{PassedBelow}
use Rattle.half_poly.specs.Turned.{turned}
use Rattle.half_poly.proofs.turning.turn_edges.Given as goal

abbrev pub invariant-loop-place : goal.invariant-loop-place
invariant-loop-place l = PassedBelow (λ e h. option_map (turned (contents l.old) l.before e) h) (contents l.initial.edges) (contents l.edges) l.place
