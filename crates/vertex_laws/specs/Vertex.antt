-- Vertices and edges of a convex solid.
use Rattle.std.specs.Prelude.{◌≡◌, List, pos, ◌<ℤ◌}
use Rattle.algebra.specs.Members.{◌∈◌}
use Rattle.algebra.specs.Space.{Homogeneous, HalfSpace, SamePoint, dot, cross, det, side}
use Rattle.trim_laws.specs.Solid.{IsIn}

-- A point of the solid on the planes of three faces with independent normals.
pub record IsVertex (F : List HalfSpace) (p : Homogeneous) : Type 0 where
  pub inside : IsIn F p
  pub f : HalfSpace
  pub g : HalfSpace
  pub h : HalfSpace
  pub f_in : f ∈ F
  pub g_in : g ∈ F
  pub h_in : h ∈ F
  pub on_f : side f p ≡ pos 0
  pub on_g : side g p ≡ pos 0
  pub on_h : side h p ≡ pos 0
  pub independent : pos 0 <ℤ det f.normal g.normal h.normal

-- The planes of f and g meet in a line.
abbrev pub Crosses : HalfSpace → HalfSpace → Type 0
Crosses f g = pos 0 <ℤ dot (cross f.normal g.normal) (cross f.normal g.normal)

-- Two distinct vertices on the planes of two faces with independent normals.
pub record IsEdge (F : List HalfSpace) (p q : Homogeneous) : Type 0 where
  pub p_vertex : IsVertex F p
  pub q_vertex : IsVertex F q
  pub distinct : ¬ (SamePoint p q)
  pub f : HalfSpace
  pub g : HalfSpace
  pub f_in : f ∈ F
  pub g_in : g ∈ F
  pub crossing : Crosses f g
  pub p_on_f : side f p ≡ pos 0
  pub q_on_f : side f q ≡ pos 0
  pub p_on_g : side g p ≡ pos 0
  pub q_on_g : side g q ≡ pos 0

-- Some vertex is behind g.
pub record VertexBehind (F : List HalfSpace) (g : HalfSpace) : Type 0 where
  pub at : Homogeneous
  pub vertex : IsVertex F at
  pub behind : side g at <ℤ pos 0

-- Some vertex on f is behind g.
pub record VertexOnBehind (F : List HalfSpace) (f g : HalfSpace) : Type 0 where
  pub at : Homogeneous
  pub vertex : IsVertex F at
  pub on : side f at ≡ pos 0
  pub behind : side g at <ℤ pos 0
