-- What a box is made of, and which rows can refuse it.
use Rattle.std.specs.Prelude.{◌≡◌, ℤ, List, [], ◌∷◌, Option, Some, None, Result, Ok, Err}
use Rattle.map_model.specs.Faces.{Face}
use Rattle.map_model.specs.Tree.{Whole}
use Rattle.map_model.specs.Below.{Below, IsRight}
use Rattle.map_model.specs.Brushes.{box_planes}
use Rattle.map_model.specs.Commands.{Settings, Box, point_in}
use Rattle.map_model.specs.Replies.{Refusal}
use Rattle.map_model.specs.Rows.{first, point_range, no_volume, out_of_world}
use Rattle.tree_ops.specs.declared.fault.OpFault.{OpFault}
use Rattle.tree_ops.specs.declared.fault.OpFault.TheVariants.{No, Memory}
use Rattle.brush_plans.specs.PlainFaces.{plain_faces}

-- The faces of the box from one corner to another.
abbrev pub box_faces : Settings → Whole → (x y : List ℤ) → List Face
box_faces s m x y = plain_faces s m (box_planes (point_in x) (point_in y))

-- The rows that can refuse it, and which of them does, by whatever right tests.
abbrev pub box_rows : Below → Settings → Whole → (x y : List ℤ) → List (Option Refusal)
box_rows b s m x y = point_range s m (Box x y) ∷ no_volume b m (Box x y) ∷ out_of_world b s m (Box x y) ∷ []

abbrev pub RowsSay : Settings → Whole → (x y : List ℤ) → Option Refusal → Type 0
RowsSay s m x y r = (b : Below) → IsRight b → first (box_rows b s m x y) ≡ r

-- The brush, or the refusal of the first row that holds.
abbrev pub IsBox : Settings → Whole → (x y : List ℤ) → Result (List Face) OpFault → Type 0
IsBox s m x y (Ok body) = (body ≡ box_faces s m x y) × RowsSay s m x y None
IsBox s m x y (Err (No refusal)) = RowsSay s m x y (Some refusal)
IsBox s m x y (Err Memory) = Unit {0}
