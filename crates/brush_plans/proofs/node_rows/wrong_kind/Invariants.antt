use Rattle.std.specs.Prelude.{not}
use Rattle.map_model.specs.Tree.{whole}
use Rattle.map_model.specs.Rows.{is_movable, kind_passes}
use Rattle.map_model.specs.Replies.{WrongKind}
use Rattle.tree_ops.proofs.RowLoops.{Passed}
use Rattle.brush_plans.proofs.node_rows.wrong_kind.Given as goal

abbrev pub invariant-loop-id : goal.invariant-loop-id
invariant-loop-id l = Passed (λ n. not (kind_passes (whole l.map) is_movable n)) WrongKind l.ids l.id-index
