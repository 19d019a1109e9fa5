-- What is added to the text by the points of solids.
use Rattle.std.specs.Prelude.{◌≡◌, ℕ, List, [], ◌∷◌, ◌++◌, Option, None, Some, flat_map, map, length, slice_get, pos, ◌*ℤ◌, ℤ}
use Rattle.algebra.specs.Space.{Homogeneous, HalfSpace}
use Rattle.exact_geom.specs.Rounding.{IsNearest}
use Rattle.solid_laws.specs.Names.{AreVertices}
use Rattle.map_model.specs.Faces.{Face}
use Rattle.map_model.specs.Tree.{Node, Whole, at}
use Rattle.map_model.specs.Shape.{half_spaces}
use Rattle.map_model.specs.Below.{Below, IsRight}
use Rattle.map_model.specs.Loops.{loop}
use Rattle.obj_export.specs.declared.obj.Obj.{Obj}
use Rattle.obj_export.specs.declared.brushes.Counts.{Counts}
use Rattle.obj_export.specs.Text.{vertex_line, vertex_number, turned, face_lines, brush_lines, with_brush, with_node, with_nodes}

-- Each count is the whole number that is nearest to a coordinate in millionths, of two the one further from 0.
pub record AreNearest (p : Homogeneous) (x y z : ℤ) : Type 0 where
  pub x_nearest : IsNearest (pos 1) (p.vector.x *ℤ pos 1000000) p.weight x
  pub y_nearest : IsNearest (pos 1) (p.vector.y *ℤ pos 1000000) p.weight y
  pub z_nearest : IsNearest (pos 1) (p.vector.z *ℤ pos 1000000) p.weight z

-- Words with a blank before each.
abbrev pub spaced : List (List ℕ) → List ℕ
spaced ws = flat_map (λ w. 32 ∷ w) ws

-- The lines of the vertices, whatever list of them there is.
abbrev pub AddsVertices : List HalfSpace → (old new : List ℕ) → Type 0
AddsVertices F old new = (V : List Homogeneous) → AreVertices F V → new ≡ old ++ flat_map vertex_line V

-- How many vertices the loop of a face has.
abbrev pub HasLoopLength : List HalfSpace → (face count : ℕ) → Type 0
HasLoopLength F face count =
    (V : List Homogeneous) (f : HalfSpace) → AreVertices F V → slice_get F face ≡ Some f → length (loop V f) ≡ count

-- The number of the vertex at a place of a loop; the numbers of the loop, turned; the lines of a face.
abbrev pub corner_at : ℕ → Option ℕ → List ℕ
corner_at before None = []
corner_at before (Some n) = 32 ∷ vertex_number before n

abbrev pub AddsCorner : List HalfSpace → (face k before : ℕ) → (old new : List ℕ) → Type 0
AddsCorner F face k before old new =
    (V : List Homogeneous) (f : HalfSpace) → AreVertices F V → slice_get F face ≡ Some f → new ≡ old ++ corner_at before (slice_get (loop V f) k)

abbrev pub AddsLoop : List HalfSpace → (face before : ℕ) → (old new : List ℕ) → Type 0
AddsLoop F face before old new =
    (V : List Homogeneous) (f : HalfSpace) → AreVertices F V → slice_get F face ≡ Some f →
    new ≡ old ++ spaced (map (vertex_number before) (turned (loop V f)))

abbrev pub AddsFace : List HalfSpace → Face → ℕ → (old new : List ℕ) → Type 0
AddsFace F face before old new = (V : List Homogeneous) → AreVertices F V → new ≡ old ++ face_lines before V face

-- The lines of all faces, and those of a brush.
abbrev pub AddsFaces : List Face → ℕ → (old new : List ℕ) → Type 0
AddsFaces fs before old new =
    (V : List Homogeneous) → AreVertices (half_spaces fs) V → new ≡ old ++ flat_map (face_lines before V) fs

abbrev pub AddsLines : List Face → ℕ → (old new : List ℕ) → Type 0
AddsLines fs before old new =
    (V : List Homogeneous) → AreVertices (half_spaces fs) V → new ≡ old ++ brush_lines before V fs

-- A text and its counts.
abbrev pub obj_at : List ℕ → Counts → Obj
obj_at text c = record { text = text; brushes = c.brushes; vertices = c.vertices; faces = c.faces }

-- A brush is added, or a node, by whatever right tests.
abbrev pub AddsBrush : List Face → (old new : Obj) → Type 0
AddsBrush fs old new = (b : Below) → IsRight b → new ≡ with_brush b fs old

abbrev pub AddsNode : Whole → ℕ → (old new : Obj) → Type 0
AddsNode m n old new = (b : Below) → IsRight b → new ≡ with_node b (at m n) old

abbrev pub AddsNodes : Whole → List ℕ → (old new : Obj) → Type 0
AddsNodes m ns old new = (b : Below) → IsRight b → new ≡ with_nodes b m ns old
