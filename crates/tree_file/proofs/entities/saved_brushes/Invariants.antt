use Rattle.std.proofs.Common.{◌≡◌, take}
use Rattle.map_model.specs.Tree.{whole}
use Rattle.tree_file.specs.Saving.{saved_brushes}
use Rattle.tree_file.proofs.entities.saved_brushes.Given as goal

abbrev pub invariant-loop-id : goal.invariant-loop-id
invariant-loop-id l = l.saved.items ≡ saved_brushes (whole l.map) (take l.id-index l.brushes)
