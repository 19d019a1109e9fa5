use Rattle.std.proofs.Common.{length}
use Rattle.tree_node.specs.Held.{changed}
use Rattle.hollow_plans.proofs.PuttingWalls.{Placing}
use Rattle.hollow_plans.proofs.placing.put_walls.Given as goal

abbrev pub invariant-loop-one : goal.invariant-loop-one
invariant-loop-one l = Placing l.fn.hollowed.items (length l.yielded) (changed l.fn.map l.fn.change) (changed l.fn.map l.change)
