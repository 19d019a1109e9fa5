use Rattle.std.specs.Prelude.{is_none}
use Rattle.map_model.specs.Tree.{whole, at}
use Rattle.map_model.specs.Replies.{NoNode}
use Rattle.tree_ops.proofs.RowLoops.{Passed}
use Rattle.tree_ops.proofs.rows.no_node.Given as goal

abbrev pub invariant-loop-id : goal.invariant-loop-id
invariant-loop-id l = Passed (λ n. is_none (at (whole l.map) n)) NoNode l.ids l.id-index
