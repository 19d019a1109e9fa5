-- A further face can be added to the trimmed faces in place of the faces: the same of faces that have more than a half-space.
use Rattle.std.proofs.Common.{◌≡◌, List, [], ◌∷◌, ◌++◌, map, sym, subst, ◌⊎◌, inl, inr, ⊎_elim, pos, ◌<ℤ◌, ◌≤ℤ◌}
use Rattle.std.proofs.lemmas.List.{map-append}
use Rattle.algebra.specs.Members.{◌∈◌, here, there}
use Rattle.algebra.specs.Space.{Homogeneous, HalfSpace, side}
use Rattle.algebra.proofs.Members.{each_of_more}
use Rattle.trim_laws.specs.Solid.{IsInside, Proper, Bounded}
use Rattle.trim_laws.specs.Trim.{Bears, IsKept, TrimsFaces, TrimFaces, no_faces, keeps_face, drops_face}
use Rattle.trim_laws.proofs.Faces.{trim_faces}
use Rattle.trim_laws.proofs.Once.{bears_in_part}
use Rattle.vertex_laws.specs.Vertex.{IsVertex}
use Rattle.cut_laws.specs.Cut.{back}
use Rattle.cut_laws.proofs.Backs.{in_left, in_last}
use Rattle.cut_laws.proofs.Missed.{missed_new, missed_old}
use Rattle.cut_laws.proofs.TrimStep.{part_proper, Shared, up_to, So, shift, take, skip, kept_after, kept_before, shared, at_start}

module _ {A : Type 0} (plane : A → HalfSpace) where
  abbrev spaces : List A → List HalfSpace
  spaces fs = map plane fs

  abbrev more : List A → A → List A
  more fs s = fs ++ s ∷ []

  -- ---- with some vertex in front
  walk : (L G : List A) (s : A) → Shared (spaces L) (spaces G) (plane s) (spaces (more L s)) (spaces (more G s)) → (B C rest K : List A) {H : List A} → So (spaces L) (spaces G) (spaces B) (spaces C) (spaces rest) (spaces K) →
      TrimsFaces plane L B rest K → TrimsFaces plane (more G s) C (more K s) H → TrimsFaces plane (more L s) B (more rest s) H
  walk L G s sh B C [] [] so no_faces (keeps_face k no_faces) = keeps_face (kept_after (spaces L) (spaces G) (plane s) (spaces (more L s)) (spaces (more G s)) sh so k) no_faces
  walk L G s sh B C [] [] so no_faces (drops_face n no_faces) = drops_face (λ k. n (kept_before (spaces L) (spaces G) (plane s) (plane s) (spaces (more L s)) (spaces (more G s)) sh so k)) no_faces
  walk L G s sh B C [] (x ∷ K) so t u = elim t [ ]
  walk L G s sh B C (f ∷ rest) K so (keeps_face {kept = kept} e t) (keeps_face k u) =
      keeps_face (record { first = e.first; bears = up_to sh (plane f) (sh.old (plane f) (so.kg (plane f) here)) k.bears }) (walk L G s sh (f ∷ B) (f ∷ C) rest kept (take so) t u)
  walk L G s sh B C (f ∷ rest) K so (keeps_face {kept = kept} e t) (drops_face x u) =
      drops_face (λ k. x (kept_before (spaces L) (spaces G) (plane s) (plane f) (spaces (more L s)) (spaces (more G s)) sh so k)) (walk L G s sh (f ∷ B) (f ∷ C) rest kept (take so) t u)
  walk L G s sh B C (f ∷ rest) K so (drops_face x t) u =
      drops_face (λ k. x (record { first = k.first; bears = bears_in_part (spaces (more L s)) (spaces L) (plane f) sh.left k.bears })) (walk L G s sh (f ∷ B) C rest K (skip so) t u)

  spaces_more : (L : List A) (s : A) → spaces (more L s) ≡ back (spaces L) (plane s)
  spaces_more L s = map-append plane L (s ∷ [])

  pub trim_add_face : (L G H : List A) (s : A) (o : Homogeneous) → Proper (spaces (more L s)) → IsInside (spaces (more L s)) o → TrimFaces plane L G → TrimFaces plane (more G s) H → TrimFaces plane (more L s) H
  trim_add_face L G H s o r i t u = walk L G s sh [] [] L G (at_start (spaces L) (spaces G)) t u
    where
      both : (M N X Y : List HalfSpace) → X ≡ M → Y ≡ N → Shared (spaces L) (spaces G) (plane s) M N → Shared (spaces L) (spaces G) (plane s) X Y
      both M N X Y q e h = rw (q, e) h

      sh : Shared (spaces L) (spaces G) (plane s) (spaces (more L s)) (spaces (more G s))
      sh = both (back (spaces L) (plane s)) (back (spaces G) (plane s)) (spaces (more L s)) (spaces (more G s)) (spaces_more L s) (spaces_more G s)
          (shared (spaces L) (spaces G) (plane s) o (subst Proper (spaces_more L s) r) (subst (λ F. IsInside F o) (spaces_more L s) i) (trim_faces A plane L G t).half_spaces)

  -- ---- with no vertex in front
  module _ (L : List A) (s : A) (o : Homogeneous) (b : Bounded (spaces L)) (r : Proper (spaces L)) (p : Proper (plane s ∷ [])) (i : IsInside (spaces L) o) (l : side (plane s) o <ℤ pos 0)
      (h : (v : Homogeneous) → IsVertex (spaces L) v → side (plane s) v ≤ℤ pos 0) where
    old_bears : (f : HalfSpace) → f ∈ spaces L → Bears (spaces L) f → Bears (spaces (more L s)) f
    old_bears f m e = subst (λ F. Bears F f) (sym (spaces_more L s)) (missed_old (spaces L) (plane s) f o b r m i l h e)

    bears_back : (f : HalfSpace) → Bears (spaces (more L s)) f → Bears (spaces L) f
    bears_back f e = bears_in_part (back (spaces L) (plane s)) (spaces L) f (in_left (spaces L) (plane s)) (subst (λ F. Bears F f) (spaces_more L s) e)

    missed_walk : (B rest G : List A) → ((g : HalfSpace) → g ∈ spaces L → (g ∈ spaces B) ⊎ (g ∈ spaces rest)) → ((g : HalfSpace) → g ∈ spaces rest → g ∈ spaces L) →
        TrimsFaces plane L B rest G → TrimsFaces plane (more L s) B (more rest s) G
    missed_walk B [] G cover rl no_faces = drops_face (λ k.
        missed_new (spaces L) (plane s) b r (p (plane s) here) h (subst (λ F. Bears F (plane s)) (spaces_more L s) k.bears) (λ g m. ⊎_elim (k.first g) (λ x. elim x [ ]) (cover g m))) no_faces
    missed_walk B (f ∷ rest) G cover rl (keeps_face {kept = kept} e t) = keeps_face (record { first = e.first; bears = old_bears (plane f) (rl (plane f) here) e.bears })
        (missed_walk (f ∷ B) rest kept (λ g m. shift g (cover g m)) (λ g m. rl g (there m)) t)
    missed_walk B (f ∷ rest) G cover rl (drops_face x t) = drops_face (λ k. x (record { first = k.first; bears = bears_back (plane f) k.bears }))
        (missed_walk (f ∷ B) rest G (λ g m. shift g (cover g m)) (λ g m. rl g (there m)) t)

    pub missed_trim_faces : (G : List A) → TrimFaces plane L G → TrimFaces plane (more L s) G
    missed_trim_faces G t = missed_walk [] L G (λ g m. inr m) (λ g m. m) t
