use Rattle.std.proofs.Common.{sym, ◌∙◌}
use Rattle.map_model.specs.Tree.{whole, is_brush}
use Rattle.tree_ops.proofs.Lists.{all_on, all_stops, all_ends}
use Rattle.tree_ops.proofs.kinds.all_brushes.Goals as goal

pub loop-id-preserved : goal.loop-id-preserved
loop-id-preserved c = all_on (is_brush (whole c.args.map.now)) c.args.ids.now c.loop-id.id-index c.id-item.result c.loop-id-test.true c.id-item.is c.loop-id.invariant (sym c.is_brush.ensures ∙ c.if-not-is_brush.false)

pub returns-then-not-is_brush : goal.returns-then-not-is_brush
returns-then-not-is_brush c = all_stops (is_brush (whole c.args.map.now)) c.args.ids.now c.loop-id.id-index c.id-item.result c.loop-id-test.true c.id-item.is c.loop-id.invariant (sym c.is_brush.ensures ∙ c.if-not-is_brush.true)

pub returns : goal.returns
returns c = all_ends (is_brush (whole c.args.map.now)) c.args.ids.now c.loop-id.id-index c.loop-id-test.false c.loop-id.invariant
