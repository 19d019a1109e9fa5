-- What follows where no row refuses a command.
use Rattle.std.specs.Prelude.{◌≡◌, ℕ, cond, ◌==◌, Result, Ok, Err}
use Rattle.map_model.specs.Tree.{Whole}
use Rattle.map_model.specs.Edits.{swap}
use Rattle.map_model.specs.Below.{Below}
use Rattle.map_model.specs.Commands.{Settings, Command}
use Rattle.map_model.specs.Replies.{Reply, Done, Made}
use Rattle.map_model.specs.Own.{own}
use Rattle.map_model.specs.Apply.{is_maker}
use Rattle.map_laws.specs.Unlinked.{finish_unlinked}
use Rattle.tree_ops.specs.declared.fault.OpFault.{OpFault}
use Rattle.tree_ops.specs.declared.fault.OpFault.TheVariants.{No, Memory}
use Rattle.tree_ops.specs.declared.planned.Planned.{Planned}

-- How many nodes a command of the tree makes.
abbrev pub made_by : Command → ℕ
made_by c = cond (is_maker c) 1 0

-- The reply of a command that has made so many nodes, from this number on.
abbrev pub reply_by : (made first : ℕ) → Reply
reply_by made first = cond (made == 0) Done (Made made first)

-- The command's own changes with what follows them, by whatever tests and settings.
abbrev pub Ends : Whole → Command → Result Planned OpFault → Type 0
Ends m c (Ok p) = (b : Below) (s : Settings) → finish_unlinked m c (own b s m c) ≡ Ok (record { map = swap m p.change; reply = p.reply })
Ends m c (Err (No refusal)) = (b : Below) (s : Settings) → finish_unlinked m c (own b s m c) ≡ Err refusal
Ends m c (Err Memory) = Unit {0}
