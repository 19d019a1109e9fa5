use Rattle.std.proofs.Common.{◌≡◌, ℕ, ◌<◌, nat_eq, false, get_or}
use Rattle.half_arena.specs.Slots.{contents}
use Rattle.half_poly.specs.Shapes.{sides_of}
use Rattle.half_poly.specs.Tags.{tags_of}
use Rattle.half_poly.proofs.tags.face_with.Given as goal

abbrev pub invariant-loop-number : goal.invariant-loop-number
invariant-loop-number l = (j : ℕ) → j < l.number → nat_eq (get_or (tags_of (sides_of (contents l.faces) l.order)) j 0) l.tag ≡ false
