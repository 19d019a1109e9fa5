-- The polyhedron that stands for a list of half-spaces.
use Rattle.std.specs.Prelude.{◌≡◌, ℕ, List, pos}
use Rattle.algebra.specs.Members.{◌∈◌}
use Rattle.algebra.specs.Space.{Homogeneous, HalfSpace, SamePoint, side, SameHalfSpace}
use Rattle.trim_laws.specs.Solid.{Proper, Bounded}
use Rattle.trim_laws.specs.Trim.{Bears}
use Rattle.vertex_laws.specs.Vertex.{IsVertex}
use Rattle.vertex_laws.specs.HalfEdge.{IsHalfEdge}
use Rattle.poly_laws.specs.Links.{Links, HasVertex, HasEdge, HasFace, from_point, to_point, own_plane, other_plane, VertexSlot, FaceSlot, EdgeSlot}

-- A bounded list of faces that all bear, no two of one half-space.
pub record Neat (F : List HalfSpace) : Type 0 where
  pub proper : Proper F
  pub bounded : Bounded F
  pub bears : (f : HalfSpace) → f ∈ F → Bears F f
  pub once : (f g : HalfSpace) → f ∈ F → g ∈ F → SameHalfSpace f g → f ≡ g

-- Its live vertices are the vertices of F, each once, its live faces the faces of F, each once, and its live half-edges the
-- half-edges of F, each once: each face has one from each vertex on it, with its twin and its next one.
pub record StandsFor (F : List HalfSpace) (L : Links) : Type 0 where
  pub vertex : (x : ℕ) → HasVertex L x → IsVertex F (L.point x)
  pub vertex_once : (x y : ℕ) → HasVertex L x → HasVertex L y → SamePoint (L.point x) (L.point y) → x ≡ y
  pub vertex_all : (v : Homogeneous) → IsVertex F v → VertexSlot L v
  pub face_in : (k : ℕ) → HasFace L k → L.plane k ∈ F
  pub face_once : (k l : ℕ) → HasFace L k → HasFace L l → L.plane k ≡ L.plane l → k ≡ l
  pub face_all : (f : HalfSpace) → f ∈ F → FaceSlot L f
  pub first_live : (k : ℕ) → HasFace L k → HasEdge L (L.first k)
  pub first_face : (k : ℕ) → HasFace L k → L.face (L.first k) ≡ k
  pub origin_live : (e : ℕ) → HasEdge L e → HasVertex L (L.origin e)
  pub face_live : (e : ℕ) → HasEdge L e → HasFace L (L.face e)
  pub twin_live : (e : ℕ) → HasEdge L e → HasEdge L (L.twin e)
  pub twin_twin : (e : ℕ) → HasEdge L e → L.twin (L.twin e) ≡ e
  pub next_live : (e : ℕ) → HasEdge L e → HasEdge L (L.next e)
  pub meets : (e : ℕ) → HasEdge L e → L.origin (L.next e) ≡ L.origin (L.twin e)
  pub same_face : (e : ℕ) → HasEdge L e → L.face (L.next e) ≡ L.face e
  pub edge : (e : ℕ) → HasEdge L e → IsHalfEdge F (own_plane L e) (other_plane L e) (from_point L e) (to_point L e)
  pub one_each : (e d : ℕ) → HasEdge L e → HasEdge L d → L.origin e ≡ L.origin d → L.face e ≡ L.face d → e ≡ d
  pub edge_all : (x k : ℕ) → HasVertex L x → HasFace L k → side (L.plane k) (L.point x) ≡ pos 0 → EdgeSlot L x k

-- The same but for that all vertices, and the half-edges from each of them, are there.
pub record Linked (F : List HalfSpace) (L : Links) : Type 0 where
  pub vertex : (x : ℕ) → HasVertex L x → IsVertex F (L.point x)
  pub vertex_once : (x y : ℕ) → HasVertex L x → HasVertex L y → SamePoint (L.point x) (L.point y) → x ≡ y
  pub face_in : (k : ℕ) → HasFace L k → L.plane k ∈ F
  pub face_once : (k l : ℕ) → HasFace L k → HasFace L l → L.plane k ≡ L.plane l → k ≡ l
  pub face_all : (f : HalfSpace) → f ∈ F → FaceSlot L f
  pub first_live : (k : ℕ) → HasFace L k → HasEdge L (L.first k)
  pub first_face : (k : ℕ) → HasFace L k → L.face (L.first k) ≡ k
  pub origin_live : (e : ℕ) → HasEdge L e → HasVertex L (L.origin e)
  pub face_live : (e : ℕ) → HasEdge L e → HasFace L (L.face e)
  pub twin_live : (e : ℕ) → HasEdge L e → HasEdge L (L.twin e)
  pub twin_twin : (e : ℕ) → HasEdge L e → L.twin (L.twin e) ≡ e
  pub next_live : (e : ℕ) → HasEdge L e → HasEdge L (L.next e)
  pub meets : (e : ℕ) → HasEdge L e → L.origin (L.next e) ≡ L.origin (L.twin e)
  pub same_face : (e : ℕ) → HasEdge L e → L.face (L.next e) ≡ L.face e
  pub edge : (e : ℕ) → HasEdge L e → IsHalfEdge F (own_plane L e) (other_plane L e) (from_point L e) (to_point L e)
  pub one_each : (e d : ℕ) → HasEdge L e → HasEdge L d → L.origin e ≡ L.origin d → L.face e ≡ L.face d → e ≡ d

-- Where the live half-edges are among some list, they are: the way round each face passes each of its vertices.
abbrev pub LinkedLaw : Type 0
LinkedLaw = (F : List HalfSpace) (L : Links) (S : List ℕ) → Neat F → Linked F L → ((e : ℕ) → HasEdge L e → e ∈ S) → StandsFor F L
