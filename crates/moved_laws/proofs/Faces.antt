-- Trimming faces that have more than a half-space, once they are moved.
use Rattle.std.proofs.Common.{◌≡◌, List, [], ◌∷◌, map, sym, refl, subst}
use Rattle.algebra.specs.Space.{HalfSpace}
use Rattle.orient48.specs.Motions.{Motion, moved_half}
use Rattle.orient48.specs.Laws.{IsTurn}
use Rattle.trim_laws.specs.Trim.{IsKept, TrimsFaces, no_faces, keeps_face, drops_face}
use Rattle.moved_laws.specs.Moved.{moved_list}
use Rattle.moved_laws.specs.Laws.{FacesMovedLaw}
use Rattle.moved_laws.proofs.Trimming.{kept_onto, kept_from}

module _ (A : Type 0) (plane : A → HalfSpace) (move : A → A) (r : Motion) (t : IsTurn r.matrix) (e : (f : A) → plane (move f) ≡ moved_half r (plane f)) where
  lists : (xs : List A) → map plane (map move xs) ≡ moved_list r (map plane xs)
  lists [] = refl
  lists (x ∷ xs) = (λ i. e x i ∷ lists xs i)

  faces_kept : (F E : List A) (f : A) → IsKept (map plane F) (map plane E) (plane f) → IsKept (map plane (map move F)) (map plane (map move E)) (plane (move f))
  faces_kept F E f k = subst (λ X. IsKept X (map plane (map move E)) (plane (move f))) (sym (lists F))
      (subst (λ X. IsKept (moved_list r (map plane F)) X (plane (move f))) (sym (lists E))
      (subst (IsKept (moved_list r (map plane F)) (moved_list r (map plane E))) (sym (e f)) (kept_onto r (map plane F) (map plane E) (plane f) t k)))

  faces_were : (F E : List A) (f : A) → IsKept (map plane (map move F)) (map plane (map move E)) (plane (move f)) → IsKept (map plane F) (map plane E) (plane f)
  faces_were F E f k = kept_from r (map plane F) (map plane E) (plane f) t (subst (IsKept (moved_list r (map plane F)) (moved_list r (map plane E))) (e f)
      (subst (λ X. IsKept (moved_list r (map plane F)) X (plane (move f))) (lists E) (subst (λ X. IsKept X (map plane (map move E)) (plane (move f))) (lists F) k)))

  pub faces_onto : (F : List A) {earlier rest kept : List A} → TrimsFaces plane F earlier rest kept → TrimsFaces plane (map move F) (map move earlier) (map move rest) (map move kept)
  faces_onto F no_faces = no_faces
  faces_onto F (keeps_face {earlier = E} {f = f} k more) = keeps_face (faces_kept F E f k) (faces_onto F more)
  faces_onto F (drops_face {earlier = E} {f = f} k more) = drops_face (λ m. k (faces_were F E f m)) (faces_onto F more)

pub faces_is : (A : Type 0) → FacesMovedLaw A
faces_is A plane move r F G t e h = faces_onto A plane move r t e F h
