use Rattle.map_model.specs.Tree.{whole}
use Rattle.brush_plans.proofs.Lists.{is_member}
use Rattle.cut_plans.proofs.ClippedLists.{none_clipped, one_clipped, clipping_stops, all_clipped}
use Rattle.cut_plans.proofs.clipping.clip_all.Goals as goal

pub clip-requires-clause-brush : goal.clip-requires-clause-brush
clip-requires-clause-brush c = c.requires.brushes c.id-item.result (is_member c.args.ids.now c.loop-id.id-index c.id-item.result c.loop-id-test.true c.id-item.is)

pub clip-requires-clause-parts : goal.clip-requires-clause-parts
clip-requires-clause-parts c = c.requires.parts c.id-item.result (is_member c.args.ids.now c.loop-id.id-index c.id-item.result c.loop-id-test.true c.id-item.is)

pub loop-id-init : goal.loop-id-init
loop-id-init c = λ b right. none_clipped (whole c.args.map.now) c.args.cut.now c.args.part c.args.ids.now c.in_ok-clipped.clipped.items c.in_ok-clipped.ensures.items b

pub loop-id-preserved : goal.loop-id-preserved
loop-id-preserved c =
    one_clipped (whole c.args.map.now) c.args.cut.now c.args.part c.args.ids.now c.loop-id.id-index c.id-item.result c.loop-id.clipped.items c.add.new.clipped.items c.in_ok-one.one
    c.loop-id-test.true c.id-item.is c.loop-id.invariant c.in_ok-one.ensures c.in_ok-add.ensures

pub returns-in_err-one : goal.returns-in_err-one
returns-in_err-one c =
    clipping_stops (whole c.args.map.now) c.args.cut.now c.args.part c.args.ids.now c.loop-id.id-index c.id-item.result c.loop-id.clipped.items c.in_err-one.field-0.0 c.from_residual-in_err-one.result
    c.loop-id-test.true c.id-item.is c.loop-id.invariant c.from_residual-in_err-one.ensures.1 c.in_err-one.ensures

pub returns : goal.returns
returns c = all_clipped (whole c.args.map.now) c.args.cut.now c.args.part c.args.ids.now c.loop-id.id-index c.loop-id.clipped.items c.of.result c.loop-id-test.false c.loop-id.invariant c.of.ensures
