use Rattle.std.proofs.Common.{[], refl}
use Rattle.part_rows.proofs.Rising.{none_rise, next_rises, all_rise}
use Rattle.part_rows.proofs.cutting.tags_rise.Goals as goal

pub loop-side-init : goal.loop-side-init
loop-side-init c = none_rise 0 [] refl

pub loop-side-preserved : goal.loop-side-preserved
loop-side-preserved c =
    next_rises c.args.sides.now c.loop-side.side-index c.loop-side.least c.from-tag.result c.side-item.result
    c.loop-side-test.true c.side-item.is c.loop-side.invariant c.from-tag.ensures c.if-tag-least.false c.if-tag.false

pub returns : goal.returns
returns c = λ t. all_rise c.args.sides.now c.loop-side.side-index c.loop-side.least c.loop-side-test.false c.loop-side.invariant
