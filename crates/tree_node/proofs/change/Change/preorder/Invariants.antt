use Rattle.map_model.specs.Tree.{whole}
use Rattle.map_model.specs.Edits.{swap}
use Rattle.tree_node.proofs.Walks.{Walking, weight}
use Rattle.tree_node.proofs.change.Change.preorder.Given as goal

abbrev pub invariant-loop-top : goal.invariant-loop-top
invariant-loop-top l = Walking (swap (whole l.map) l.self) l.fn.id l.found.items l.waiting.items

abbrev pub decreases-loop-top : goal.decreases-loop-top
decreases-loop-top l = weight (swap (whole l.map) l.self) l.waiting.items
