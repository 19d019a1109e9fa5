-- The loop of a face: its vertices, clockwise seen from in front.
use Rattle.std.specs.Prelude.{◌≡◌, List, [], ◌∷◌, ◌++◌, pos, ◌<ℤ◌}
use Rattle.algebra.specs.Members.{◌∈◌}
use Rattle.algebra.specs.Space.{Homogeneous, HalfSpace, SamePoint, side}
use Rattle.vertex_laws.specs.Vertex.{IsVertex}
use Rattle.vertex_laws.specs.HalfEdge.{IsHalfEdge, turn, IsAmong}

-- b stands right after a in the list.
pub data IsNext (a b : Homogeneous) : List Homogeneous → Type 0 where
  at_front : {S : List Homogeneous} → IsNext a b (a ∷ b ∷ S)
  later : {x : Homogeneous} {S : List Homogeneous} → IsNext a b S → IsNext a b (x ∷ S)

-- The list with its first point once more at the end: the neighbours round the list are the neighbours in it.
abbrev pub closed : List Homogeneous → List Homogeneous
closed [] = []
closed (s ∷ S) = (s ∷ S) ++ (s ∷ [])

-- No two of the points are one.
pub data Distinct : List Homogeneous → Type 0 where
  distinct_none : Distinct []
  distinct_more : {s : Homogeneous} {S : List Homogeneous} → ((p : Homogeneous) → p ∈ S → ¬ (SamePoint s p)) → Distinct S → Distinct (s ∷ S)

-- The points are the vertices on f, each once; seen from each one and the next, all others are on the inner side.
pub record IsLoop (F : List HalfSpace) (f : HalfSpace) (S : List Homogeneous) : Type 0 where
  pub vertices : (s : Homogeneous) → s ∈ S → IsVertex F s × (side f s ≡ pos 0)
  pub all : (v : Homogeneous) → IsVertex F v → side f v ≡ pos 0 → IsAmong v S
  pub once : Distinct S
  pub turns : (a b c : Homogeneous) → IsNext a b (closed S) → c ∈ S → ¬ (SamePoint c a) → ¬ (SamePoint c b) → pos 0 <ℤ turn f a b c

-- A half-edge of the face from a to b.
pub record HasHalfEdge (F : List HalfSpace) (f : HalfSpace) (a b : Homogeneous) : Type 0 where
  pub g : HalfSpace
  pub edge : IsHalfEdge F f g a b
