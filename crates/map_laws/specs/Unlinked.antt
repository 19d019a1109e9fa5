-- Maps in which no group is linked: what a command makes of them, and which rows can refuse it.
use Rattle.std.specs.Prelude.{◌≡◌, ◌-◌, ℕ, false, List, [], ◌∷◌, Option, Result, Ok}
use Rattle.map_model.specs.Tree.{Whole, is_linked}
use Rattle.map_model.specs.Below.{Below}
use Rattle.map_model.specs.Commands.{Command, Settings}
use Rattle.map_model.specs.Replies.{Refusal}
use Rattle.map_model.specs.Rows.{rows, first, no_node, repeated, wrong_kind, nested_ids, locked_layer, reserved_key, no_key}
use Rattle.map_model.specs.Own.{own}
use Rattle.map_model.specs.Apply.{Applied, prune, full, unless, reply_of}

-- No group is a member of a set.
abbrev pub Unlinked : Whole → Type 0
Unlinked m = (n : ℕ) → is_linked m n ≡ false

-- What follows the own changes of a command, which led from the map before to m: pruning, and the row of numbers.
abbrev pub finish_unlinked : Whole → Command → Whole → Result Applied Refusal
finish_unlinked before c m =
    let pruned = prune before c m in
    unless (full (pruned.next - 1)) (Ok (record { map = pruned; reply = reply_of before c (m.next - before.next) }))

-- The rows, then the command's own changes and what follows them.
abbrev pub apply_unlinked : Below → Settings → Whole → Command → Result Applied Refusal
apply_unlinked b s m c = unless (first (rows b s m c)) (finish_unlinked m c (own b s m c))

-- The rows that can refuse a command of the tree.
abbrev pub tree_rows : Whole → Command → List (Option Refusal)
tree_rows m c = no_node m c ∷ repeated c ∷ wrong_kind m c ∷ nested_ids m c ∷ locked_layer m c ∷ reserved_key c ∷ no_key m c ∷ []
