use Rattle.std.proofs.Common.{◌∙◌, sym, ap, drop, refl}
use Rattle.csg_ops.specs.Hollows.{is_along_axis}
use Rattle.csg_ops.proofs.Hollows.{along_next, along_stop, along_end}
use Rattle.csg_ops.proofs.boxes.are_along_axes.Goals as goal

pub loop-side-preserved : goal.loop-side-preserved
loop-side-preserved c = along_next c.args.sides.now c.loop-side.side-index c.side-item.result c.loop-side-test.true c.side-item.is (sym c.is_along_axis.ensures ∙ c.if-not-is_along_axis.false) c.loop-side.invariant

pub returns-then-not-is_along_axis : goal.returns-then-not-is_along_axis
returns-then-not-is_along_axis c = along_stop c.args.sides.now c.loop-side.side-index c.side-item.result c.loop-side-test.true c.side-item.is (sym c.is_along_axis.ensures ∙ c.if-not-is_along_axis.true) c.loop-side.invariant

pub returns : goal.returns
returns c = along_end c.args.sides.now c.loop-side.side-index c.loop-side-test.false c.loop-side.invariant
