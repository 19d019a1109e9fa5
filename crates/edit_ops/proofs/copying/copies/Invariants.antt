use Rattle.map_model.specs.Tree.{whole, at}
use Rattle.map_model.specs.Own.{copied_node}
use Rattle.edit_ops.proofs.CopySteps.{Copied}
use Rattle.edit_ops.proofs.copying.copies.Given as goal

abbrev pub invariant-loop-id : goal.invariant-loop-id
invariant-loop-id l = Copied (copied_node l.lock l.motion) (at (whole l.map)) l.ids l.nodes.items l.id-index
