-- What is added to a listing where it goes by the points of solids.
use Rattle.std.specs.Prelude.{◌≡◌, ℕ, List, [], ◌∷◌, ◌++◌, Some, flat_map, map, slice_get, option_map, unwrap_or}
use Rattle.std.specs.List.{enumerate_from}
use Rattle.algebra.specs.Space.{Homogeneous, HalfSpace}
use Rattle.solid_laws.specs.Names.{AreVertices}
use Rattle.map_model.specs.Faces.{Face}
use Rattle.map_model.specs.Tree.{Node, Whole, at}
use Rattle.map_model.specs.Shape.{half_spaces}
use Rattle.map_model.specs.Below.{Below, IsRight}
use Rattle.map_model.specs.Loops.{loop}
use Rattle.map_model.specs.Listings.{vertex_word, face_line, brush_lines, lines_of_node, show_text}

-- Words with a blank before each.
abbrev pub spaced : List (List ℕ) → List ℕ
spaced ws = flat_map (λ w. 32 ∷ w) ws

-- The vertex of a number; the loop of the face of a number; the line of a face, whatever the vertices are.
abbrev pub AddsVertex : List HalfSpace → ℕ → (old new : List ℕ) → Type 0
AddsVertex F k old new = (V : List Homogeneous) → AreVertices F V → new ≡ old ++ 32 ∷ vertex_word V k

abbrev pub AddsLoop : List HalfSpace → ℕ → (old new : List ℕ) → Type 0
AddsLoop F face old new =
    (V : List Homogeneous) (f : HalfSpace) → AreVertices F V → slice_get F face ≡ Some f → new ≡ old ++ spaced (map (vertex_word V) (loop V f))

abbrev pub AddsFace : List HalfSpace → ℕ → Face → (old new : List ℕ) → Type 0
AddsFace F k face old new = (V : List Homogeneous) → AreVertices F V → new ≡ old ++ face_line V (k, face)

-- The lines of all faces.
abbrev pub AddsFaces : List Face → (old new : List ℕ) → Type 0
AddsFaces fs old new =
    (V : List Homogeneous) → AreVertices (half_spaces fs) V → new ≡ old ++ flat_map (face_line V) (enumerate_from 0 fs)

-- The lines of a brush, of any node, and the whole listing, by whatever right tests.
abbrev pub AddsBrush : ℕ → List Face → (old new : List ℕ) → Type 0
AddsBrush n fs old new = (b : Below) → IsRight b → new ≡ old ++ brush_lines b n fs

abbrev pub AddsNode : ℕ → Node → (old new : List ℕ) → Type 0
AddsNode n x old new = (b : Below) → IsRight b → new ≡ old ++ lines_of_node b n x

abbrev pub AddsNodeAt : Whole → ℕ → (old new : List ℕ) → Type 0
AddsNodeAt m n old new = (b : Below) → IsRight b → new ≡ old ++ unwrap_or (option_map (lines_of_node b n) (at m n)) []

abbrev pub Shows : Whole → ℕ → List ℕ → Type 0
Shows m n text = (b : Below) → IsRight b → text ≡ show_text b m n
