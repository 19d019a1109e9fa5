use Rattle.map_model.specs.Tree.{whole, is_brush}
use Rattle.tree_ops.proofs.Lists.{AllSoFar}
use Rattle.tree_ops.proofs.kinds.all_brushes.Given as goal

abbrev pub invariant-loop-id : goal.invariant-loop-id
invariant-loop-id l = AllSoFar (is_brush (whole l.map)) l.ids l.id-index
