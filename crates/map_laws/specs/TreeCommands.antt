-- The commands that change the tree and its texts, in maps in which no group is linked.
use Rattle.std.specs.Prelude.{◌≡◌, Bool, true, false, IsTrue, Ok}
use Rattle.map_model.specs.Tree.{Whole}
use Rattle.map_model.specs.Shape.{Shape}
use Rattle.map_model.specs.Below.{Below}
use Rattle.map_model.specs.Commands.{Command, IsGood, Settings, Delete, Entity, Set, Unset, Tie, Untie, Layer, Freeze, Thaw, Group, Ungroup, Into}
use Rattle.map_model.specs.Rows.{rows, first}
use Rattle.map_model.specs.Apply.{Applied, apply}
use Rattle.map_laws.specs.Unlinked.{Unlinked, apply_unlinked, tree_rows}

abbrev pub is_tree_command : Command → Bool
is_tree_command (Delete ns) = true
is_tree_command (Entity class point) = true
is_tree_command (Set n key value) = true
is_tree_command (Unset n key) = true
is_tree_command (Tie class ns) = true
is_tree_command (Untie ns) = true
is_tree_command (Layer name) = true
is_tree_command (Freeze n) = true
is_tree_command (Thaw n) = true
is_tree_command (Group name ns) = true
is_tree_command (Ungroup ns) = true
is_tree_command (Into place ns) = true
is_tree_command c = false

-- Marks, edited groups and spreading change nothing.
abbrev pub UnlinkedApplyLaw : Type 0
UnlinkedApplyLaw = (b : Below) (s : Settings) (m : Whole) (c : Command) → IsTrue (is_tree_command c) → IsGood c → Shape m → Unlinked m → apply b s m c ≡ apply_unlinked b s m c

-- No other row holds.
abbrev pub UnlinkedRowsLaw : Type 0
UnlinkedRowsLaw = (b : Below) (s : Settings) (m : Whole) (c : Command) → IsTrue (is_tree_command c) → Unlinked m → first (rows b s m c) ≡ first (tree_rows m c)

-- The map after a command has the shape again, and no linked group.
abbrev pub TreeCommandLaw : Type 0
TreeCommandLaw = (b : Below) (s : Settings) (m : Whole) (c : Command) (a : Applied) → IsTrue (is_tree_command c) → IsGood c → Shape m → Unlinked m → apply b s m c ≡ Ok a →
    Shape a.map × Unlinked a.map
