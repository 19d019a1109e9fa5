use Rattle.std.proofs.Common.{◌≡◌, take, filter}
use Rattle.map_model.specs.Tree.{whole}
use Rattle.map_model.specs.Saved.{has_id}
use Rattle.tree_file.proofs.order.named_nodes.Given as goal

abbrev pub invariant-loop-id : goal.invariant-loop-id
invariant-loop-id l = l.named.items ≡ filter (has_id (whole l.map)) (take l.id-index l.nodes)
