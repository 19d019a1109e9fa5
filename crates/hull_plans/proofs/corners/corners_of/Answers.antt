use Rattle.std.proofs.Common.{ap, ◌++◌, ◌∙◌}
use Rattle.map_model.specs.Tree.{whole}
use Rattle.brush_plans.proofs.Lists.{is_member}
use Rattle.hull_plans.proofs.CornerPoints.{none_gathered, one_gathered, gathering_stops, all_gathered}
use Rattle.hull_plans.proofs.corners.corners_of.Goals as goal

pub loop-id-init : goal.loop-id-init
loop-id-init c = none_gathered (whole c.args.map.now) c.args.ids.now c.new-all.result.items c.new-all.ensures.items

pub corners_at-requires : goal.corners_at-requires
corners_at-requires c = record { brush = c.requires.brushes c.id-item.result (is_member c.args.ids.now c.loop-id.id-index c.id-item.result c.loop-id-test.true c.id-item.is) }

pub returns-in_err-points : goal.returns-in_err-points
returns-in_err-points c =
    gathering_stops (whole c.args.map.now) c.args.ids.now c.loop-id.id-index c.id-item.result c.loop-id.all.items c.in_err-points.field-0.0 c.from_residual.result
    c.loop-id-test.true c.id-item.is c.loop-id.invariant c.from_residual.ensures.1 c.in_err-points.ensures

pub loop-id-preserved : goal.loop-id-preserved
loop-id-preserved c =
    one_gathered (whole c.args.map.now) c.args.ids.now c.loop-id.id-index c.id-item.result c.loop-id.all.items c.add.new.all.items c.in_ok-points.points
    c.loop-id-test.true c.id-item.is c.loop-id.invariant c.in_ok-points.ensures (c.in_ok-add.ensures ∙ ap (λ l. c.loop-id.all.items ++ l) c.list.ensures)

pub returns : goal.returns
returns c = all_gathered (whole c.args.map.now) c.args.ids.now c.loop-id.id-index c.loop-id.all.items c.of.result c.requires.few c.loop-id-test.false c.loop-id.invariant c.of.ensures
