-- The faces that a solid needs.
use Rattle.std.specs.Prelude.{◌≡◌, List, [], ◌∷◌, map, pos, ◌<ℤ◌}
use Rattle.algebra.specs.Members.{◌∈◌}
use Rattle.algebra.specs.Space.{Homogeneous, HalfSpace, side, SameHalfSpace}

-- Some point on the plane of f is behind each face of another half-space.
pub record Bears (F : List HalfSpace) (f : HalfSpace) : Type 0 where
  pub at : Homogeneous
  pub weight : pos 0 <ℤ at.weight
  pub on : side f at ≡ pos 0
  pub others : (g : HalfSpace) → g ∈ F → ¬ (SameHalfSpace f g) → side g at <ℤ pos 0

-- Trimming keeps the face f that comes after the faces `earlier`: it bears, and no earlier face has its half-space.
pub record IsKept (F earlier : List HalfSpace) (f : HalfSpace) : Type 0 where
  pub first : (g : HalfSpace) → g ∈ earlier → ¬ (SameHalfSpace g f)
  pub bears : Bears F f

-- Of the faces `rest`, which come after the faces `earlier`, `kept` are those that trimming F keeps, in their order.
pub data Trims (F : List HalfSpace) : (earlier rest kept : List HalfSpace) → Type 0 where
  ends : {earlier : List HalfSpace} → Trims F earlier [] []
  keeps : {earlier rest kept : List HalfSpace} {f : HalfSpace} →
      IsKept F earlier f → Trims F (f ∷ earlier) rest kept → Trims F earlier (f ∷ rest) (f ∷ kept)
  drops : {earlier rest kept : List HalfSpace} {f : HalfSpace} →
      ¬ (IsKept F earlier f) → Trims F (f ∷ earlier) rest kept → Trims F earlier (f ∷ rest) kept

-- G is the trimmed list of F.
abbrev pub Trim : List HalfSpace → List HalfSpace → Type 0
Trim F G = Trims F [] F G

-- The same of faces that have more than a half-space: `plane f` is that of the face f.
pub data TrimsFaces {A : Type 0} (plane : A → HalfSpace) (F : List A) : (earlier rest kept : List A) → Type 0 where
  no_faces : {earlier : List A} → TrimsFaces plane F earlier [] []
  keeps_face : {earlier rest kept : List A} {f : A} →
      IsKept (map plane F) (map plane earlier) (plane f) → TrimsFaces plane F (f ∷ earlier) rest kept → TrimsFaces plane F earlier (f ∷ rest) (f ∷ kept)
  drops_face : {earlier rest kept : List A} {f : A} →
      ¬ (IsKept (map plane F) (map plane earlier) (plane f)) → TrimsFaces plane F (f ∷ earlier) rest kept → TrimsFaces plane F earlier (f ∷ rest) kept

-- G is the trimmed list of the faces F.
abbrev pub TrimFaces : {A : Type 0} → (A → HalfSpace) → List A → List A → Type 0
TrimFaces plane F G = TrimsFaces plane F [] F G
