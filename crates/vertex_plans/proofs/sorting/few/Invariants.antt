use Rattle.std.proofs.Common.{length}
use Rattle.vertex_plans.proofs.SnapLists.{Keeping}
use Rattle.vertex_plans.proofs.sorting.few.Given as goal

abbrev pub invariant-loop-one : goal.invariant-loop-one
invariant-loop-one l = Keeping l.fn.list (length l.yielded) l.bodies.items
