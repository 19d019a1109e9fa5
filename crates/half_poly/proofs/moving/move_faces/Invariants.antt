use Rattle.std.specs.Option.{option_map}
use Rattle.half_arena.specs.Slots.{contents}
use Rattle.half_poly.specs.Passes.{PassedBelow}
use Rattle.half_poly.specs.Moving.{moved_face}
use Rattle.half_poly.proofs.moving.move_faces.Given as goal

abbrev pub invariant-loop-place : goal.invariant-loop-place
invariant-loop-place l = PassedBelow (λ _ f. option_map (moved_face l.motion) f) (contents l.initial.faces) (contents l.faces) l.place
