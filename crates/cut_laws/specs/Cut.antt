-- A solid cut by a further plane: the part behind it.
use Rattle.std.specs.Prelude.{◌≡◌, List, [], ◌∷◌, ◌++◌, pos, neg_ℤ, ◌≤ℤ◌, ◌<ℤ◌}
use Rattle.algebra.specs.Space.{Homogeneous, HalfSpace, SamePoint, side, mix}
use Rattle.vertex_laws.specs.Vertex.{IsVertex, IsEdge, VertexOnBehind}
use Rattle.vertex_laws.specs.HalfEdge.{IsHalfEdge}

-- The solid behind a further plane.
abbrev pub back : List HalfSpace → HalfSpace → List HalfSpace
back F P = F ++ (P ∷ [])

-- The point of the plane on the way from a to b.
abbrev pub cut_point : HalfSpace → Homogeneous → Homogeneous → Homogeneous
cut_point P a b = mix (side P b) a (neg_ℤ (side P a)) b

-- An edge from behind the plane to in front of it.
pub record Crossed (F : List HalfSpace) (P : HalfSpace) (a b : Homogeneous) : Type 0 where
  pub edge : IsEdge F a b
  pub behind : side P a <ℤ pos 0
  pub ahead : pos 0 <ℤ side P b

-- The point of the plane on an edge with one end behind it and one in front.
pub record NewVertex (F : List HalfSpace) (P : HalfSpace) (v : Homogeneous) : Type 0 where
  pub a : Homogeneous
  pub b : Homogeneous
  pub crossed : Crossed F P a b
  pub same : SamePoint v (cut_point P a b)

-- A vertex that is not in front.
pub record OldVertex (F : List HalfSpace) (P : HalfSpace) (v : Homogeneous) : Type 0 where
  pub vertex : IsVertex F v
  pub not_in_front : side P v ≤ℤ pos 0

-- K are those of the faces `rest` that have a vertex behind P, in their order.
pub data Sifts (G : List HalfSpace) (P : HalfSpace) : (rest K : List HalfSpace) → Type 0 where
  sift_end : Sifts G P [] []
  sift_keep : {rest K : List HalfSpace} {f : HalfSpace} → VertexOnBehind G f P → Sifts G P rest K → Sifts G P (f ∷ rest) (f ∷ K)
  sift_drop : {rest K : List HalfSpace} {f : HalfSpace} →
      ((v : Homogeneous) → IsVertex G v → side f v ≡ pos 0 → pos 0 ≤ℤ side P v) → Sifts G P rest K → Sifts G P (f ∷ rest) K

-- A half-edge of the face to the vertex a.
pub record Incoming (F : List HalfSpace) (f : HalfSpace) (a : Homogeneous) : Type 0 where
  pub g : HalfSpace
  pub b : Homogeneous
  pub edge : IsHalfEdge F f g b a
