use Rattle.std.proofs.Common.{length, map}
use Rattle.map_nodes.specs.Nodes.{number_in}
use Rattle.map_model.specs.Edits.{renumber}
use Rattle.tree_node.proofs.Turns.{Drawing}
use Rattle.tree_node.proofs.change.Change.put_copies.Given as goal

abbrev pub invariant-loop-node : goal.invariant-loop-node
invariant-loop-node l = Drawing (map (renumber (number_in l.table)) l.fn.nodes.items) (length l.yielded) l.fn.self l.self
