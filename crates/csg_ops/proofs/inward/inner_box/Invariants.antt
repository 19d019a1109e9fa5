use Rattle.std.proofs.Common.{◌≡◌, take}
use Rattle.csg_ops.specs.Hollows.{inner_box}
use Rattle.csg_ops.proofs.inward.inner_box.Given as goal

abbrev pub invariant-loop-side : goal.invariant-loop-side
invariant-loop-side l = l.inner.items ≡ inner_box l.fn.thickness (take l.side-index l.sides)
