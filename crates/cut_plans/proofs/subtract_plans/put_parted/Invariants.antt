use Rattle.std.proofs.Common.{length}
use Rattle.tree_node.specs.Held.{changed}
use Rattle.cut_plans.proofs.PartedPlacing.{Placing}
use Rattle.cut_plans.proofs.subtract_plans.put_parted.Given as goal

abbrev pub invariant-loop-one : goal.invariant-loop-one
invariant-loop-one l = Placing l.fn.parted.items (length l.yielded) (changed l.fn.map l.fn.change) (changed l.fn.map l.change)
