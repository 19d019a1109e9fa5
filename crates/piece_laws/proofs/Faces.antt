-- Pieces by faces are pieces by their half-spaces.
use Rattle.std.proofs.Common.{◌≡◌, ◌∙◌, List, [], ◌∷◌, ◌++◌, map, ap, subst}
use Rattle.std.proofs.lemmas.List.{map-append}
use Rattle.algebra.specs.Space.{HalfSpace, reverse}
use Rattle.trim_laws.specs.Solid.{IsInside}
use Rattle.trim_laws.specs.Trim.{Trim}
use Rattle.trim_laws.proofs.Faces.{trim_faces}
use Rattle.cut_laws.specs.Cut.{back}
use Rattle.piece_laws.specs.Pieces.{IsEmpty, no_lists, one_solid, one_empty, ArePieces}
use Rattle.piece_laws.specs.Laws.{PiecesLaw}
use Rattle.piece_laws.proofs.Fronts.{front, Pieces, none_left, piece, empty}
use Rattle.piece_laws.proofs.Spaces.{remainder}

module _ {A : Type 0} (plane : A → HalfSpace) (turn : A → A) (turned : (f : A) → plane (turn f) ≡ reverse (plane f)) where
  back_is : (a : List A) (f : A) → map plane (a ++ f ∷ []) ≡ back (map plane a) (plane f)
  back_is a f = map-append plane a (f ∷ [])

  front_is : (a : List A) (f : A) → map plane (a ++ turn f ∷ []) ≡ front (map plane a) (plane f)
  front_is a f = map-append plane a (turn f ∷ []) ∙ ap (λ g. map plane a ++ (g ∷ [])) (turned f)

  by_spaces : (a b : List A) {solids : List (List A)} → ArePieces plane turn a b solids → Pieces (map plane a) (map plane b) (map (map plane) solids)
  by_spaces a [] no_lists = none_left
  by_spaces a (f ∷ b) (one_solid {kept = kept} {solids = solids} t more) = piece t.volume.at
      (subst (λ F. IsInside F t.volume.at) (front_is a f) t.volume.inside)
      (subst (λ F. Trim F (map plane kept)) (front_is a f) (trim_faces A plane (a ++ turn f ∷ []) kept t.trim).half_spaces)
      (subst (λ F. Pieces F (map plane b) (map (map plane) solids)) (back_is a f) (by_spaces (a ++ f ∷ []) b more))
  by_spaces a (f ∷ b) (one_empty {solids = solids} e more) = empty
      (subst IsEmpty (front_is a f) e)
      (subst (λ F. Pieces F (map plane b) (map (map plane) solids)) (back_is a f) (by_spaces (a ++ f ∷ []) b more))

pub pieces : (A : Type 0) → PiecesLaw A
pieces A plane turn a b solids o turned r s i j t = remainder (map plane a) (map plane b) (map (map plane) solids) o r s i j (by_spaces plane turn turned a b t)
