-- The half-edges of a face, which run round it clockwise seen from in front.
use Rattle.std.specs.Prelude.{◌≡◌, List, ℤ, pos, ◌<ℤ◌}
use Rattle.algebra.specs.Members.{◌∈◌}
use Rattle.algebra.specs.Space.{Homogeneous, HalfSpace, SamePoint, dot, cross, side, way}
use Rattle.vertex_laws.specs.Vertex.{IsVertex}

-- The half-edge from a to b of the face f, whose other face is g.
pub record IsHalfEdge (F : List HalfSpace) (f g : HalfSpace) (a b : Homogeneous) : Type 0 where
  pub a_vertex : IsVertex F a
  pub b_vertex : IsVertex F b
  pub f_in : f ∈ F
  pub g_in : g ∈ F
  pub a_on_f : side f a ≡ pos 0
  pub a_on_g : side g a ≡ pos 0
  pub b_on_f : side f b ≡ pos 0
  pub b_on_g : side g b ≡ pos 0
  pub ahead : pos 0 <ℤ dot (cross g.normal f.normal) (way a b)

-- ((a - b) x (c - b)) . normal, times the weights: above 0 where c is on the inner side of the way from a to b.
unfoldable pub turn : HalfSpace → Homogeneous → Homogeneous → Homogeneous → ℤ
turn f a b c = dot (cross (way b a) (way b c)) f.normal

-- A half-edge of the face from the vertex a.
pub record Outgoing (F : List HalfSpace) (f : HalfSpace) (a : Homogeneous) : Type 0 where
  pub g : HalfSpace
  pub b : Homogeneous
  pub edge : IsHalfEdge F f g a b

-- A half-edge of the face to b, from one of the points S.
pub record From (F : List HalfSpace) (f : HalfSpace) (S : List Homogeneous) (b : Homogeneous) : Type 0 where
  pub a : Homogeneous
  pub g : HalfSpace
  pub among : a ∈ S
  pub edge : IsHalfEdge F f g a b

-- A half-edge of the face from a, to one of the points S.
pub record To (F : List HalfSpace) (f : HalfSpace) (S : List Homogeneous) (a : Homogeneous) : Type 0 where
  pub b : Homogeneous
  pub g : HalfSpace
  pub among : b ∈ S
  pub edge : IsHalfEdge F f g a b

-- The point v is one of the points S.
pub record IsAmong (v : Homogeneous) (S : List Homogeneous) : Type 0 where
  pub s : Homogeneous
  pub among : s ∈ S
  pub same : SamePoint v s
