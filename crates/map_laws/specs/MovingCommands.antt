-- The commands that move or copy nodes in space, in maps in which no group is linked. The tests on solids are right.
use Rattle.std.specs.Prelude.{◌≡◌, Bool, true, false, IsTrue, List, [], ◌∷◌, Option, Ok}
use Rattle.map_model.specs.Tree.{Whole}
use Rattle.map_model.specs.Shape.{Shape}
use Rattle.map_model.specs.Below.{Below, IsRight}
use Rattle.map_model.specs.Commands.{Command, IsGood, Settings, Copy, Move, Turn, Flip}
use Rattle.map_model.specs.Replies.{Refusal}
use Rattle.map_model.specs.Rows.{rows, first, no_node, repeated, wrong_kind, nested_ids, locked_layer, point_range, out_of_world, lock_offset, stuck_origin}
use Rattle.map_model.specs.Apply.{Applied, apply}
use Rattle.map_laws.specs.Unlinked.{Unlinked, apply_unlinked}

abbrev pub is_moving_command : Command → Bool
is_moving_command (Copy shift ns) = true
is_moving_command (Move shift ns) = true
is_moving_command (Turn axis quarters about ns) = true
is_moving_command (Flip axis at ns) = true
is_moving_command c = false

-- The rows that can refuse such a command.
abbrev pub moving_rows : Below → Settings → Whole → Command → List (Option Refusal)
moving_rows b s m c =
    no_node m c ∷ repeated c ∷ wrong_kind m c ∷ nested_ids m c ∷ locked_layer m c ∷ point_range s m c ∷ out_of_world b s m c ∷ lock_offset s m c ∷ stuck_origin m c ∷ []

-- No other row holds.
abbrev pub MovingRowsLaw : Type 0
MovingRowsLaw = (b : Below) (s : Settings) (m : Whole) (c : Command) → IsTrue (is_moving_command c) → Unlinked m → first (rows b s m c) ≡ first (moving_rows b s m c)

-- Marks, edited groups and spreading change nothing.
abbrev pub MovingApplyLaw : Type 0
MovingApplyLaw = (b : Below) (s : Settings) (m : Whole) (c : Command) → IsRight b → IsTrue (is_moving_command c) → IsGood c → Shape m → Unlinked m → apply b s m c ≡ apply_unlinked b s m c

-- The map after a command has the shape again, and no linked group: brushes that are moved or copied are valid.
abbrev pub MovingCommandLaw : Type 0
MovingCommandLaw = (b : Below) (s : Settings) (m : Whole) (c : Command) (a : Applied) → IsRight b → IsTrue (is_moving_command c) → IsGood c → Shape m → Unlinked m → apply b s m c ≡ Ok a →
    Shape a.map × Unlinked a.map
