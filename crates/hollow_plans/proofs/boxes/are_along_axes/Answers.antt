use Rattle.std.proofs.Common.{◌∙◌, sym}
use Rattle.hollow_plans.proofs.BoxTests.{along_next, along_stop, along_end}
use Rattle.hollow_plans.proofs.boxes.are_along_axes.Goals as goal

pub loop-face-preserved : goal.loop-face-preserved
loop-face-preserved c = along_next c.args.faces.now c.loop-face.face-index c.face-item.result c.loop-face-test.true c.face-item.is (sym c.is_along_axis.ensures ∙ c.if-not-is_along_axis.false) c.loop-face.invariant

pub returns-then-not-is_along_axis : goal.returns-then-not-is_along_axis
returns-then-not-is_along_axis c = along_stop c.args.faces.now c.loop-face.face-index c.face-item.result c.loop-face-test.true c.face-item.is (sym c.is_along_axis.ensures ∙ c.if-not-is_along_axis.true) c.loop-face.invariant

pub returns : goal.returns
returns c = along_end c.args.faces.now c.loop-face.face-index c.loop-face-test.false c.loop-face.invariant
