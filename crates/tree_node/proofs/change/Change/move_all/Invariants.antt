use Rattle.map_model.specs.Tree.{whole}
use Rattle.tree_node.proofs.Turns.{Moving}
use Rattle.tree_node.proofs.change.Change.move_all.Given as goal

abbrev pub invariant-loop-id : goal.invariant-loop-id
invariant-loop-id l = Moving (whole l.map) l.fn.place l.ids l.id-index l.fn.self l.self
