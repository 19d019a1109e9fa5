use Rattle.map_model.specs.Tree.{whole}
use Rattle.map_model.specs.Edits.{swap}
use Rattle.map_model.specs.Own.{moved_node}
use Rattle.edit_ops.proofs.Renewals.{Renewing}
use Rattle.edit_ops.proofs.moving_nodes.move_nodes.Given as goal

abbrev pub invariant-loop-id : goal.invariant-loop-id
invariant-loop-id l = let m = whole l.map in Renewing (moved_node l.lock l.motion) m l.ids l.id-index (swap m l.change)
