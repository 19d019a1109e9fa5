use Rattle.std.specs.Prelude.{not}
use Rattle.map_model.specs.Tree.{whole, faces_at}
use Rattle.map_model.specs.Brushes.{is_box}
use Rattle.map_model.specs.Replies.{NotBox}
use Rattle.tree_ops.proofs.RowLoops.{Passed}
use Rattle.hollow_plans.proofs.boxes.refuse_other_brushes.Given as goal

abbrev pub invariant-loop-id : goal.invariant-loop-id
invariant-loop-id l = Passed (λ n. not (is_box (faces_at (whole l.map) n))) NotBox l.ids l.id-index
