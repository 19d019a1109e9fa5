-- The brush that `intersect` makes of several.
use Rattle.std.specs.Prelude.{◌≡◌, ℕ, ◌+◌, List, [], ◌∷◌, length, Option, None, Some, Result, Ok, Err}
use Rattle.solid_brush.specs.declared.side.Side.{Side}
use Rattle.map_nodes.specs.Seen.{sides_from}
use Rattle.map_model.specs.Faces.{Face}
use Rattle.map_model.specs.Tree.{Whole, faces_at}
use Rattle.map_model.specs.Below.{Below, IsRight}
use Rattle.map_model.specs.Commands.{Settings, Intersect}
use Rattle.map_model.specs.Replies.{Refusal}
use Rattle.map_model.specs.Rows.{first, intersection}
use Rattle.map_laws.specs.Reshaping.{reshaping_rows}
use Rattle.tree_ops.specs.declared.fault.OpFault.{OpFault}
use Rattle.tree_ops.specs.declared.fault.OpFault.TheVariants.{No, Memory}

-- The sides of each brush, with tags from k on: all together they count the faces of all brushes.
abbrev pub sides_in_turn : Whole → ℕ → List ℕ → List (List Side)
sides_in_turn m k [] = []
sides_in_turn m k (n ∷ ns) = sides_from k (faces_at m n) ∷ sides_in_turn m (k + length (faces_at m n)) ns

-- All rows, and the common part where none holds.
abbrev pub intersect_refusal : Settings → Whole → List ℕ → Below → Option Refusal
intersect_refusal s m ns b = first (reshaping_rows b s m (Intersect ns))

pub record IsIntersection (s : Settings) (m : Whole) (ns : List ℕ) (body : List Face) : Type 0 where
  pub passes : (b : Below) → IsRight b → intersect_refusal s m ns b ≡ None
  pub made : (b : Below) → IsRight b → intersection b m ns ≡ body

abbrev pub IsIntersected : Settings → Whole → List ℕ → Result (List Face) OpFault → Type 0
IsIntersected s m ns (Ok body) = IsIntersection s m ns body
IsIntersected s m ns (Err (No refusal)) = (b : Below) → IsRight b → intersect_refusal s m ns b ≡ Some refusal
IsIntersected s m ns (Err Memory) = Unit {0}
