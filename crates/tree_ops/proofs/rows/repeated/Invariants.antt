use Rattle.std.specs.Prelude.{nat_lt, count_by, ◌==◌}
use Rattle.map_model.specs.Replies.{Repeated}
use Rattle.tree_ops.proofs.RowLoops.{Passed}
use Rattle.tree_ops.proofs.rows.repeated.Given as goal

abbrev pub invariant-loop-id : goal.invariant-loop-id
invariant-loop-id l = Passed (λ n. nat_lt 1 (count_by (λ k. k == n) l.ids)) Repeated l.ids l.id-index
