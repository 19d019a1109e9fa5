-- A polyhedron as half-edges in numbered slots.
use Rattle.std.specs.Prelude.{◌≡◌, ℕ, Bool, true}
use Rattle.algebra.specs.Space.{Homogeneous, HalfSpace, SamePoint}

-- What the three arenas hold: which slots are live, the points of vertices, the half-spaces of faces with a half-edge of each,
-- and of each half-edge the vertex where it begins, its face, its twin and the next one of its face.
pub record Links : Type 0 where
  pub has_vertex : ℕ → Bool
  pub has_edge : ℕ → Bool
  pub has_face : ℕ → Bool
  pub point : ℕ → Homogeneous
  pub plane : ℕ → HalfSpace
  pub first : ℕ → ℕ
  pub origin : ℕ → ℕ
  pub face : ℕ → ℕ
  pub twin : ℕ → ℕ
  pub next : ℕ → ℕ

abbrev pub HasVertex : Links → ℕ → Type 0
HasVertex L x = L.has_vertex x ≡ true

abbrev pub HasEdge : Links → ℕ → Type 0
HasEdge L e = L.has_edge e ≡ true

abbrev pub HasFace : Links → ℕ → Type 0
HasFace L k = L.has_face k ≡ true

-- The vertex where a half-edge ends.
abbrev pub target : Links → ℕ → ℕ
target L e = L.origin (L.twin e)

-- The points where it begins and where it ends, and the half-spaces of its face and of its twin's.
abbrev pub from_point : Links → ℕ → Homogeneous
from_point L e = L.point (L.origin e)

abbrev pub to_point : Links → ℕ → Homogeneous
to_point L e = L.point (L.origin (L.twin e))

abbrev pub own_plane : Links → ℕ → HalfSpace
own_plane L e = L.plane (L.face e)

abbrev pub other_plane : Links → ℕ → HalfSpace
other_plane L e = L.plane (L.face (L.twin e))

-- A live slot of a vertex at this point.
pub record VertexSlot (L : Links) (v : Homogeneous) : Type 0 where
  pub slot : ℕ
  pub live : HasVertex L slot
  pub same : SamePoint v (L.point slot)

-- A live slot of a face of this half-space.
pub record FaceSlot (L : Links) (f : HalfSpace) : Type 0 where
  pub slot : ℕ
  pub live : HasFace L slot
  pub plane_is : L.plane slot ≡ f

-- A live slot of a half-edge of the face from the vertex.
pub record EdgeSlot (L : Links) (vertex face : ℕ) : Type 0 where
  pub slot : ℕ
  pub live : HasEdge L slot
  pub origin_is : L.origin slot ≡ vertex
  pub face_is : L.face slot ≡ face
