-- What is kept of a polyhedron to read it by: its vertices in the order of their names, the loops of its faces, and the order of the tags.
use Rattle.std.specs.Prelude.{◌≡◌, ℕ, List, map}
use Rattle.algebra.specs.Space.{Homogeneous, HalfSpace}
use Rattle.half_arena.specs.Slots.{contents}
use Rattle.half_arena.specs.declared.ids.VertId.{VertId}
use Rattle.half_arena.specs.declared.ids.FaceId.{FaceId}
use Rattle.half_poly.specs.declared.shape.Shape.{Shape}
use Rattle.half_poly.specs.Shapes.{bounds, solid_of, side_at, sides_of, IsShape, DistinctTags}
use Rattle.half_poly.specs.Names.{point_at, AreNamed}
use Rattle.half_poly.specs.Rounds.{AreLoops}

-- The half-spaces of the faces, in order.
abbrev pub faces_of : Shape → List HalfSpace
faces_of shape = solid_of (sides_of (contents shape.faces) shape.order.items)

-- The half-space of a face.
abbrev pub face_at : Shape → FaceId → HalfSpace
face_at shape id = bounds (side_at (contents shape.faces) id)

-- The points of vertices.
abbrev pub points_of : Shape → List VertId → List Homogeneous
points_of shape ids = map (point_at (contents shape.vertices)) ids

-- The arenas have the same in each slot, and the faces the same order.
pub record IsSameShape (old new : Shape) : Type 0 where
  pub vertices : new.vertices.slots ≡ old.vertices.slots
  pub edges : new.edges.slots ≡ old.edges.slots
  pub faces : new.faces.slots ≡ old.faces.slots
  pub order : new.order.items ≡ old.order.items

-- The arenas stand for a trimmed list of planes with distinct tags, and these are its vertices in the order of their names, and its loops.
pub record IsPoly (shape : Shape) (named : List VertId) (loops : List (List ℕ)) : Type 0 where
  pub stands : IsShape (contents shape.vertices) (contents shape.edges) (contents shape.faces) shape.order.items
  pub tags : DistinctTags (sides_of (contents shape.faces) shape.order.items)
  pub are_named : AreNamed (contents shape.vertices) (faces_of shape) named
  pub are_loops : AreLoops (faces_of shape) (points_of shape named) loops
