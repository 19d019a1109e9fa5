use Rattle.std.specs.Prelude.{not}
use Rattle.map_model.specs.Tree.{whole, is_brush}
use Rattle.map_model.specs.Replies.{WrongKind}
use Rattle.tree_ops.proofs.RowLoops.{Passed}
use Rattle.brush_plans.proofs.brush_rows.no_brush.Given as goal

abbrev pub invariant-loop-id : goal.invariant-loop-id
invariant-loop-id l = Passed (λ n. not (is_brush (whole l.map) n)) WrongKind l.ids l.id-index
