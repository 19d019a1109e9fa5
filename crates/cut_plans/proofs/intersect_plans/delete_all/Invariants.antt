use Rattle.map_model.specs.Edits.{delete}
use Rattle.tree_node.specs.Held.{changed}
use Rattle.tree_ops.proofs.Turning.{Turning}
use Rattle.cut_plans.proofs.intersect_plans.delete_all.Given as goal

abbrev pub invariant-loop-id : goal.invariant-loop-id
invariant-loop-id l = Turning delete l.ids l.id-index (changed l.fn.map l.fn.change) (changed l.map l.change)
