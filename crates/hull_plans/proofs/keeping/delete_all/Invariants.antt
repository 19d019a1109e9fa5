use Rattle.map_model.specs.Tree.{whole}
use Rattle.map_model.specs.Edits.{swap, delete}
use Rattle.tree_ops.proofs.Turning.{Turning}
use Rattle.hull_plans.proofs.keeping.delete_all.Given as goal

abbrev pub invariant-loop-id : goal.invariant-loop-id
invariant-loop-id l = let m = whole l.map in Turning delete l.ids l.id-index (swap m l.fn.change) (swap m l.change)
