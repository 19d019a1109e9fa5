-- Trimming faces that have more than a half-space is trimming their half-spaces.
use Rattle.std.proofs.Common.{◌≡◌, refl, ap, List, ◌∷◌, map}
use Rattle.algebra.specs.Space.{HalfSpace}
use Rattle.trim_laws.specs.Trim.{Trims, ends, keeps, drops, TrimsFaces, no_faces, keeps_face, drops_face}
use Rattle.trim_laws.specs.Laws.{TrimFacesLaw}

half_spaces : {A : Type 0} {plane : A → HalfSpace} {F earlier rest kept : List A} → TrimsFaces plane F earlier rest kept →
    Trims (map plane F) (map plane earlier) (map plane rest) (map plane kept)
half_spaces no_faces = ends
half_spaces (keeps_face k t) = keeps k (half_spaces t)
half_spaces (drops_face k t) = drops k (half_spaces t)

unique_faces : {A : Type 0} {plane : A → HalfSpace} {F earlier rest G H : List A} → TrimsFaces plane F earlier rest G → TrimsFaces plane F earlier rest H → G ≡ H
unique_faces no_faces no_faces = refl
unique_faces (keeps_face {f = f} k t) (keeps_face l u) = ap (λ x. f ∷ x) (unique_faces t u)
unique_faces (keeps_face k t) (drops_face l u) = absurd (l k)
unique_faces (drops_face k t) (keeps_face l u) = absurd (k l)
unique_faces (drops_face k t) (drops_face l u) = unique_faces t u

pub trim_faces : (A : Type 0) → TrimFacesLaw A
trim_faces A plane F G t = record { half_spaces = half_spaces t; only = λ H u. unique_faces t u }
