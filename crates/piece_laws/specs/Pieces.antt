-- The pieces of one solid without another, and the remainder.
use Rattle.std.specs.Prelude.{List, [], ◌∷◌, ◌++◌, map}
use Rattle.algebra.specs.Members.{◌∈◌}
use Rattle.algebra.specs.Space.{Homogeneous, HalfSpace}
use Rattle.trim_laws.specs.Solid.{IsIn, IsInside}
use Rattle.trim_laws.specs.Trim.{TrimFaces}
use Rattle.trim_laws.specs.Valid.{HasInside}

-- No point is inside.
abbrev pub IsEmpty : List HalfSpace → Type 0
IsEmpty F = (p : Homogeneous) → ¬ (IsInside F p)

-- Some point is inside the faces `all`, and trimming keeps these. `plane f` is the half-space of the face f.
pub record IsTrimOf {A : Type 0} (plane : A → HalfSpace) (all kept : List A) : Type 0 where
  pub volume : HasInside (map plane all)
  pub trim : TrimFaces plane all kept

-- The solids are what the lists with a point inside are trimmed to, in order.
pub data AreTrimsOf {A : Type 0} (plane : A → HalfSpace) : (lists solids : List (List A)) → Type 0 where
  no_lists : AreTrimsOf plane [] []
  one_solid : {all kept : List A} {lists solids : List (List A)} → IsTrimOf plane all kept → AreTrimsOf plane lists solids → AreTrimsOf plane (all ∷ lists) (kept ∷ solids)
  one_empty : {all : List A} {lists solids : List (List A)} → IsEmpty (map plane all) → AreTrimsOf plane lists solids → AreTrimsOf plane (all ∷ lists) solids

-- For each face of b: the faces of a, the earlier faces of b, and this one turned round.
abbrev pub piece_lists : {A : Type 0} → (A → A) → (a b : List A) → List (List A)
piece_lists turn a [] = []
piece_lists turn a (f ∷ later) = (a ++ turn f ∷ []) ∷ piece_lists turn (a ++ f ∷ []) later

-- The solids are the pieces of a without b.
abbrev pub ArePieces : {A : Type 0} → (A → HalfSpace) → (A → A) → (a b : List A) → List (List A) → Type 0
ArePieces plane turn a b solids = AreTrimsOf plane (piece_lists turn a b) solids

-- One of the solids has the point.
pub record IsInSome (solids : List (List HalfSpace)) (p : Homogeneous) : Type 0 where
  pub solid : List HalfSpace
  pub among : solid ∈ solids
  pub is_in : IsIn solid p

-- No point is inside two of the solids.
pub data Apart : List (List HalfSpace) → Type 0 where
  no_solids : Apart []
  one_more_solid : {G : List HalfSpace} {solids : List (List HalfSpace)} →
      ((H : List HalfSpace) → H ∈ solids → (p : Homogeneous) → IsInside G p → ¬ (IsInside H p)) → Apart solids → Apart (G ∷ solids)

-- The solids are the remainder of A without B.
pub record Remainder (A B : List HalfSpace) (solids : List (List HalfSpace)) : Type 0 where
  -- each point of A that isn't in B is in one of them
  pub covers : (p : Homogeneous) → IsIn A p → ¬ (IsIn B p) → IsInSome solids p
  -- each of their points is in A, and not inside B
  pub within : (p : Homogeneous) → IsInSome solids p → IsIn A p × ¬ (IsInside B p)
  pub apart : Apart solids
