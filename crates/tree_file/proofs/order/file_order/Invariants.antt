use Rattle.std.proofs.Common.{◌≡◌, not, take, filter}
use Rattle.map_model.specs.Tree.{whole, is_brush}
use Rattle.tree_file.proofs.order.file_order.Given as goal

abbrev pub invariant-loop-id : goal.invariant-loop-id
invariant-loop-id l = l.nodes.items ≡ filter (λ n. not (is_brush (whole l.map) n)) (take l.id-index l.id-items)
