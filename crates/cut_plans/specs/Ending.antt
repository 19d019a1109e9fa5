-- What follows a command's own changes: pruning, and the row of numbers.
use Rattle.std.specs.Prelude.{◌≡◌, ℕ, ◌+◌, ◌-◌, ◌<◌, ◌≤◌, List, Result, Ok, Err}
use Rattle.map_model.specs.Tree.{Whole, above}
use Rattle.map_model.specs.Edits.{Changes, swap, each_in_turn}
use Rattle.map_model.specs.History.{Tight}
use Rattle.map_model.specs.Replies.{Reply, Full}
use Rattle.map_model.specs.Apply.{drop_emptied}
use Rattle.tree_ops.specs.declared.fault.OpFault.{OpFault}
use Rattle.tree_ops.specs.declared.fault.OpFault.TheVariants.{No, Memory}
use Rattle.tree_ops.specs.declared.planned.Planned.{Planned}

-- Above each of the numbers, from below, what has lost its last child goes.
abbrev pub pruned : Whole → List ℕ → Whole → Whole
pruned m ns = each_in_turn (λ n. each_in_turn (drop_emptied m) (above m n)) ns

-- The change makes of the map m the map `own`, pruned, for which there are so many numbers.
pub record Makes (m : Whole) (ns : List ℕ) (own : Whole) (drawn : ℕ) (reply : Reply) (p : Planned) : Type 0 where
  pub map : swap m p.change ≡ pruned m ns own
  pub tight : Tight m p.change
  pub reply_is : p.reply ≡ reply
  pub room : (m.next - 1) + drawn ≤ 65535

-- Or more numbers would be drawn than there are. Want of memory says nothing.
abbrev pub Ends : Whole → List ℕ → Whole → ℕ → Reply → Result Planned OpFault → Type 0
Ends m ns own drawn reply (Ok p) = Makes m ns own drawn reply p
Ends m ns own drawn reply (Err (No refusal)) = (refusal ≡ Full ((m.next - 1) + drawn)) × (65535 < (m.next - 1) + drawn)
Ends m ns own drawn reply (Err Memory) = Unit {0}
