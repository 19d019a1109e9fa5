use Rattle.std.proofs.Common.{◌+◌, ◌≤◌, length, take}
use Rattle.solid_brush.specs.Blocks.{IsTrimmedTo}
use Rattle.csg_ops.specs.Cuts.{all_sides}
use Rattle.csg_ops.proofs.intersecting.common.Given as goal

abbrev pub invariant-loop-k : goal.invariant-loop-k
invariant-loop-k l = IsTrimmedTo (all_sides (take l.k l.list)) l.block × (l.k ≤ length (all_sides (take l.k l.list)) + 1)
