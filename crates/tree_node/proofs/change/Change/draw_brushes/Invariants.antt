use Rattle.std.proofs.Common.{◌≡◌, None, length, map}
use Rattle.map_model.specs.Tree.{Brush, numbers_from}
use Rattle.tree_node.proofs.Turns.{Drawing}
use Rattle.tree_node.proofs.change.Change.draw_brushes.Given as goal

abbrev pub invariant-loop-body : goal.invariant-loop-body
invariant-loop-body l = record {
  numbers : l.ids.items ≡ numbers_from l.fn.self.next (length l.yielded);
  drawing : Drawing (map (Brush l.fn.place None) l.fn.bodies.items) (length l.yielded) l.fn.self l.self;
}
