-- Pieces by half-spaces: each in front of a face of the other solid and behind its earlier ones.
use Rattle.std.proofs.Common.{List, [], ◌∷◌, ◌++◌}
use Rattle.algebra.specs.Space.{Homogeneous, HalfSpace, reverse}
use Rattle.trim_laws.specs.Solid.{IsInside}
use Rattle.trim_laws.specs.Trim.{Trim}
use Rattle.cut_laws.specs.Cut.{back}
use Rattle.piece_laws.specs.Pieces.{IsEmpty}

-- The solid in front of a further plane.
abbrev pub front : List HalfSpace → HalfSpace → List HalfSpace
front F f = F ++ (reverse f ∷ [])

pub data Pieces : (A B : List HalfSpace) → List (List HalfSpace) → Type 0 where
  none_left : {A : List HalfSpace} → Pieces A [] []
  piece : {A B G : List HalfSpace} {b : HalfSpace} {Gs : List (List HalfSpace)} (o : Homogeneous) → IsInside (front A b) o → Trim (front A b) G → Pieces (back A b) B Gs → Pieces A (b ∷ B) (G ∷ Gs)
  empty : {A B : List HalfSpace} {b : HalfSpace} {Gs : List (List HalfSpace)} → IsEmpty (front A b) → Pieces (back A b) B Gs → Pieces A (b ∷ B) Gs
