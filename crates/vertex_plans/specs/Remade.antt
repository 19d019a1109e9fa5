-- Brushes whose vertices move: faces on facets, and the brushes in the map.
use Rattle.std.specs.Prelude.{◌≡◌, ℕ, ◌<◌, List, length, get_or}
use Rattle.solid_brush.specs.declared.side.Side.{Side}
use Rattle.vertex_edit.specs.declared.shape.FromFace.{FromFace}
use Rattle.map_model.specs.Faces.{Face}
use Rattle.cut_plans.specs.Told.{bare}

-- The fields of the old face from which a facet comes, on the facet's own plane.
abbrev pub face_on : List Face → FromFace → Side → Face
face_on old facet side = record (get_or old facet.old bare) { plane = side.plane }

-- Each side has its place as its tag, and its facet comes from one of the old faces.
pub record ComeFrom (old : List Face) (facets : List FromFace) (sides : List Side) : Type 0 where
  pub count : length facets ≡ length sides
  pub each : (k : ℕ) (facet : FromFace) → k < length sides → (get_or facets k facet).old < length old
  pub tag : (k : ℕ) (side : Side) → k < length sides → (get_or sides k side).tag ≡ k

-- The faces on the facets, in order.
pub record AreFacesOn (old : List Face) (facets : List FromFace) (sides : List Side) (faces : List Face) : Type 0 where
  pub count : length faces ≡ length sides
  pub each : (k : ℕ) (facet : FromFace) (side : Side) (face : Face) → k < length sides → get_or faces k face ≡ face_on old (get_or facets k facet) (get_or sides k side)
