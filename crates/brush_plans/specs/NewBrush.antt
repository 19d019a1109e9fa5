-- A new brush of the world.
use Rattle.std.specs.Prelude.{◌≡◌, ◌<◌, ◌≤◌, List, None, Result, Ok, Err}
use Rattle.map_model.specs.Faces.{Face}
use Rattle.map_model.specs.Tree.{Whole, Brush}
use Rattle.map_model.specs.Edits.{Changes, swap, put_last}
use Rattle.map_model.specs.History.{Tight}
use Rattle.map_model.specs.Replies.{Reply, Made, Full}
use Rattle.tree_ops.specs.declared.fault.OpFault.{OpFault}
use Rattle.tree_ops.specs.declared.fault.OpFault.TheVariants.{No, Memory}
use Rattle.tree_ops.specs.declared.planned.Planned.{Planned}

-- A brush of these faces is put at the end of the world's brushes; or there is no number for it.
pub record Puts (m : Whole) (faces : List Face) (change : Changes) (reply : Reply) : Type 0 where
  pub map : swap m change ≡ put_last 0 (Brush 0 None faces) m
  pub reply_is : reply ≡ Made 1 m.next
  pub room : m.next ≤ 65535
  pub tight : Tight m change

abbrev pub IsPut : Whole → List Face → Result Planned OpFault → Type 0
IsPut m faces (Ok p) = Puts m faces p.change p.reply
IsPut m faces (Err (No refusal)) = (refusal ≡ Full m.next) × (65535 < m.next)
IsPut m faces (Err Memory) = Unit {0}
