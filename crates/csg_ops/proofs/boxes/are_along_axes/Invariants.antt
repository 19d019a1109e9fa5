use Rattle.std.proofs.Common.{◌≡◌, drop}
use Rattle.csg_ops.specs.Hollows.{are_along_axes}
use Rattle.csg_ops.proofs.boxes.are_along_axes.Given as goal

abbrev pub invariant-loop-side : goal.invariant-loop-side
invariant-loop-side l = are_along_axes (drop l.side-index l.sides) ≡ are_along_axes l.sides
