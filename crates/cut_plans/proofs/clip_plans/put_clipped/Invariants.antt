use Rattle.std.proofs.Common.{length}
use Rattle.tree_node.specs.Held.{changed}
use Rattle.cut_plans.proofs.Placing.{Placing}
use Rattle.cut_plans.proofs.clip_plans.put_clipped.Given as goal

abbrev pub invariant-loop-one : goal.invariant-loop-one
invariant-loop-one l = Placing l.fn.clipped.items (length l.yielded) (changed l.fn.map l.fn.change) (changed l.fn.map l.change)
