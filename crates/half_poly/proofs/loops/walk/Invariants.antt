use Rattle.std.proofs.Common.{◌-◌, [], ◌∷◌, ◌++◌, length}
use Rattle.half_arena.specs.Slots.{contents}
use Rattle.half_poly.specs.Rounds.{begin_number, OfFace}
use Rattle.half_poly.specs.Readings.{faces_of, points_of, face_at}
use Rattle.half_poly.proofs.WalkLaws.{Path}
use Rattle.half_poly.proofs.loops.walk.Given as goal

abbrev pub invariant-loop-found : goal.invariant-loop-found
invariant-loop-found l = Path (faces_of l.shape) (points_of l.shape l.named) (face_at l.shape l.fn.face) (begin_number (contents l.shape.edges) l.numbers l.first.0)
    (l.found.items ++ (begin_number (contents l.shape.edges) l.numbers l.at.0 ∷ [])) × OfFace (contents l.shape.edges) l.at.0 l.fn.face.0

abbrev pub decreases-loop-found : goal.decreases-loop-found
decreases-loop-found l = length (points_of l.shape l.named) - length l.found.items
