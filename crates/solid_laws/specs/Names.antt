-- The names of vertices, and the vertices of a solid in the order of their names.
use Rattle.std.specs.Prelude.{◌≡◌, ◌⊎◌, ℕ, ◌<◌, List, [], ◌∷◌, slice_get, Some, pos}
use Rattle.algebra.specs.Members.{◌∈◌, Every}
use Rattle.algebra.specs.Space.{Homogeneous, HalfSpace, det, side}
use Rattle.exact_geom.specs.Vertices.{IsReduced}
use Rattle.vertex_laws.specs.Vertex.{IsVertex}
use Rattle.vertex_laws.specs.HalfEdge.{IsAmong}

-- The numbers of three faces of a list. Faces count from 0.
pub record Triple : Type 0 where
  pub first : ℕ
  pub second : ℕ
  pub third : ℕ

-- s comes before t in lexicographic order.
abbrev pub Earlier : Triple → Triple → Type 0
Earlier s t =
    (s.first < t.first)
    ⊎ ((s.first ≡ t.first) × ((s.second < t.second) ⊎ ((s.second ≡ t.second) × (s.third < t.third))))

-- The point is on the planes of the three faces with these numbers, and their normals are independent.
pub record MeetAt (F : List HalfSpace) (t : Triple) (p : Homogeneous) : Type 0 where
  pub f : HalfSpace
  pub g : HalfSpace
  pub h : HalfSpace
  pub first : slice_get F t.first ≡ Some f
  pub second : slice_get F t.second ≡ Some g
  pub third : slice_get F t.third ≡ Some h
  pub on_f : side f p ≡ pos 0
  pub on_g : side g p ≡ pos 0
  pub on_h : side h p ≡ pos 0
  pub independent : ¬ (det f.normal g.normal h.normal ≡ pos 0)

-- The name of a vertex: the first three faces that meet there with independent normals.
pub record IsName (F : List HalfSpace) (p : Homogeneous) (t : Triple) : Type 0 where
  pub meet : MeetAt F t p
  pub least : (s : Triple) → MeetAt F s p → ¬ (Earlier s t)

-- The name of p comes before the name of q.
pub record NamedBefore (F : List HalfSpace) (p q : Homogeneous) : Type 0 where
  pub p_name : Triple
  pub q_name : Triple
  pub named_p : IsName F p p_name
  pub named_q : IsName F q q_name
  pub earlier : Earlier p_name q_name

-- The names rise along the list.
pub data NamesRise (F : List HalfSpace) : List Homogeneous → Type 0 where
  no_points : NamesRise F []
  one_more_point : {p : Homogeneous} {V : List Homogeneous} → Every (NamedBefore F p) V → NamesRise F V → NamesRise F (p ∷ V)

-- V are the vertices of the list, each once as a reduced point, in the order of their names.
pub record AreVertices (F : List HalfSpace) (V : List Homogeneous) : Type 0 where
  pub each : (v : Homogeneous) → v ∈ V → IsVertex F v × IsReduced v
  pub all : (v : Homogeneous) → IsVertex F v → IsReduced v → v ∈ V
  pub order : NamesRise F V

-- V are the vertices of the list, in any order and by any numbers.
pub record HoldsVertices (F : List HalfSpace) (V : List Homogeneous) : Type 0 where
  pub each : (v : Homogeneous) → v ∈ V → IsVertex F v
  pub all : (v : Homogeneous) → IsVertex F v → IsAmong v V
