use Rattle.map_model.specs.Tree.{whole}
use Rattle.brush_plans.proofs.Lists.{is_member}
use Rattle.vertex_plans.proofs.SnapLists.{none_snapped, one_snapped, snapping_stops, all_snapped}
use Rattle.vertex_plans.proofs.snapping.snap_all.Goals as goal

pub snap_one-requires-clause-brush : goal.snap_one-requires-clause-brush
snap_one-requires-clause-brush c = c.requires.brushes c.id-item.result (is_member c.args.ids.now c.loop-id.id-index c.id-item.result c.loop-id-test.true c.id-item.is)

pub loop-id-init : goal.loop-id-init
loop-id-init c = λ b right. none_snapped (whole c.args.map.now) c.args.grid.now c.args.ids.now c.new-list.result.items c.new-list.ensures.items b

pub loop-id-preserved : goal.loop-id-preserved
loop-id-preserved c =
    one_snapped (whole c.args.map.now) c.args.grid.now c.args.ids.now c.loop-id.id-index c.id-item.result c.loop-id.list.items c.add.new.list.items c.in_ok-one.one
    c.loop-id-test.true c.id-item.is c.loop-id.invariant c.in_ok-one.ensures c.in_ok-add.ensures

pub returns-in_err-one : goal.returns-in_err-one
returns-in_err-one c =
    snapping_stops (whole c.args.map.now) c.args.grid.now c.args.ids.now c.loop-id.id-index c.id-item.result c.loop-id.list.items c.in_err-one.field-0.0 c.from_residual.result
    c.loop-id-test.true c.id-item.is c.loop-id.invariant c.from_residual.ensures.1 c.in_err-one.ensures

pub returns : goal.returns
returns c = all_snapped (whole c.args.map.now) c.args.grid.now c.args.ids.now c.loop-id.id-index c.loop-id.list.items c.of.result c.loop-id-test.false c.loop-id.invariant c.of.ensures
