use Rattle.std.proofs.Common.{◌≡◌, ◌++◌, take}
use Rattle.hull_merge.proofs.solids.add_points.Given as goal

abbrev pub invariant-loop-point : goal.invariant-loop-point
invariant-loop-point l = l.all.items ≡ l.fn.all.items ++ take l.point-index l.points
