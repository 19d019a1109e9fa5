use Rattle.map_model.specs.Tree.{whole, among}
use Rattle.tree_ops.proofs.Climbing.{Asking}
use Rattle.tree_ops.proofs.rows.lies_beneath_any.Given as goal

abbrev pub invariant-loop-step : goal.invariant-loop-step
invariant-loop-step l = Asking (λ p. among p l.others) (whole l.map) l.fn.id l.step l.below
