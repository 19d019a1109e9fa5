-- What `hull` makes, and which row refuses it.
use Rattle.std.specs.Prelude.{◌≡◌, List, Option, None, Some, Result, Ok, Err, ℤ}
use Rattle.map_model.specs.Faces.{Face}
use Rattle.map_model.specs.Tree.{Whole}
use Rattle.map_model.specs.Below.{Below}
use Rattle.map_model.specs.Commands.{Settings, Hull, points_in}
use Rattle.map_model.specs.Replies.{Refusal}
use Rattle.map_model.specs.Rows.{first, hull_faces}
use Rattle.map_laws.specs.Reshaping.{reshaping_rows}
use Rattle.tree_ops.specs.declared.fault.OpFault.{OpFault}
use Rattle.tree_ops.specs.declared.fault.OpFault.TheVariants.{No, Memory}

-- What the rows say, which ask no test on solids.
abbrev pub HullSays : Settings → Whole → List (List ℤ) → Option Refusal → Type 0
HullSays s m points r = (b : Below) → first (reshaping_rows b s m (Hull points)) ≡ r

-- The brush with a plain face on each facet, or the refusal of the first row that holds.
abbrev pub IsHulled : Settings → Whole → List (List ℤ) → Result (List Face) OpFault → Type 0
IsHulled s m points (Ok body) = (body ≡ hull_faces s m (points_in points)) × HullSays s m points None
IsHulled s m points (Err (No refusal)) = HullSays s m points (Some refusal)
IsHulled s m points (Err Memory) = Unit {0}
