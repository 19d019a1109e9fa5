use Rattle.map_model.specs.Tree.{whole}
use Rattle.brush_plans.proofs.Lists.{is_member}
use Rattle.cut_plans.proofs.PartedLists.{none_parted, one_parted, parting_stops, all_parted}
use Rattle.cut_plans.proofs.subtracting.part_all.Goals as goal

pub part-requires-clause-brush : goal.part-requires-clause-brush
part-requires-clause-brush c = c.requires.brushes c.id-item.result (is_member c.args.ids.now c.loop-id.id-index c.id-item.result c.loop-id-test.true c.id-item.is)

pub part-requires-clause-some : goal.part-requires-clause-some
part-requires-clause-some c = c.requires.some c.id-item.result (is_member c.args.ids.now c.loop-id.id-index c.id-item.result c.loop-id-test.true c.id-item.is)

pub loop-id-init : goal.loop-id-init
loop-id-init c = λ b right. none_parted (whole c.args.map.now) c.args.cutter.now.body c.args.ids.now c.in_ok-parted.parted.items c.in_ok-parted.ensures.items b

pub loop-id-preserved : goal.loop-id-preserved
loop-id-preserved c =
    one_parted (whole c.args.map.now) c.args.cutter.now.body c.args.ids.now c.loop-id.id-index c.id-item.result c.loop-id.parted.items c.add.new.parted.items c.in_ok-one.one
    c.loop-id-test.true c.id-item.is c.loop-id.invariant c.in_ok-one.ensures c.in_ok-add.ensures

pub returns-in_err-one : goal.returns-in_err-one
returns-in_err-one c =
    parting_stops (whole c.args.map.now) c.args.cutter.now.body c.args.ids.now c.loop-id.id-index c.id-item.result c.loop-id.parted.items c.in_err-one.field-0.0 c.from_residual-in_err-one.result
    c.loop-id-test.true c.id-item.is c.loop-id.invariant c.from_residual-in_err-one.ensures.1 c.in_err-one.ensures

pub returns : goal.returns
returns c = all_parted (whole c.args.map.now) c.args.cutter.now.body c.args.ids.now c.loop-id.id-index c.loop-id.parted.items c.of.result c.loop-id-test.false c.loop-id.invariant c.of.ensures
