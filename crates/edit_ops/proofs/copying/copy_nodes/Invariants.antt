use Rattle.std.proofs.Common.{◌≡◌, take}
use Rattle.map_model.specs.Tree.{whole}
use Rattle.map_model.specs.Edits.{swap, each_in_turn}
use Rattle.edit_ops.specs.Copying.{copied_by}
use Rattle.edit_ops.proofs.copying.copy_nodes.Given as goal

abbrev pub invariant-loop-id : goal.invariant-loop-id
invariant-loop-id l = let m = whole l.map in swap m l.change ≡ each_in_turn (copied_by l.lock l.motion) (take l.id-index l.ids) m
