-- The law of the remainder.
use Rattle.std.specs.Prelude.{◌≡◌, List, map}
use Rattle.algebra.specs.Space.{Homogeneous, HalfSpace, reverse}
use Rattle.trim_laws.specs.Solid.{IsInside, Proper}
use Rattle.piece_laws.specs.Pieces.{ArePieces, Remainder}

-- Where some point is inside both solids, the pieces of one without the other are the remainder.
abbrev pub PiecesLaw : Type 0 → Type 0
PiecesLaw A = (plane : A → HalfSpace) (turn : A → A) (a b : List A) (solids : List (List A)) (o : Homogeneous) → ((f : A) → plane (turn f) ≡ reverse (plane f)) →
    Proper (map plane a) → Proper (map plane b) → IsInside (map plane a) o → IsInside (map plane b) o → ArePieces plane turn a b solids →
    Remainder (map plane a) (map plane b) (map (map plane) solids)
