use Rattle.std.proofs.Common.{sym, ◌∙◌}
use Rattle.map_model.specs.Tree.{whole}
use Rattle.tree_ops.proofs.Outcomes.{err_is}
use Rattle.brush_plans.proofs.BrushRows.{stops_first, stops_second, stops_third, says_last}
use Rattle.brush_plans.proofs.brush_rows.refuse_brushes.Goals as goal

pub returns-in_err-no_node : goal.returns-in_err-no_node
returns-in_err-no_node c =
    err_is c.from_residual.result c.in_err-no_node.field-0.0 c.from_residual.ensures.1
    ∙ stops_first (whole c.args.map.now) c.args.ids.now c.in_err-no_node.field-0.0 (sym c.in_err-no_node.was ∙ c.no_node.ensures)

pub returns-in_err-repeated : goal.returns-in_err-repeated
returns-in_err-repeated c =
    err_is c.from_residual-in_err-repeated.result c.in_err-repeated.field-0.0 c.from_residual-in_err-repeated.ensures.1
    ∙ stops_second (whole c.args.map.now) c.args.ids.now c.in_err-repeated.field-0.0 c.in_ok-no_node.ensures (sym c.in_err-repeated.was ∙ c.repeated.ensures)

pub returns-in_err-no_brush : goal.returns-in_err-no_brush
returns-in_err-no_brush c =
    err_is c.from_residual-in_err-no_brush.result c.in_err-no_brush.field-0.0 c.from_residual-in_err-no_brush.ensures.1
    ∙ stops_third (whole c.args.map.now) c.args.ids.now c.in_err-no_brush.field-0.0 c.in_ok-no_node.ensures c.in_ok-repeated.ensures (sym c.in_err-no_brush.was ∙ c.no_brush.ensures)

pub returns : goal.returns
returns c =
    says_last (whole c.args.map.now) c.args.ids.now c.locked_layer.result c.in_ok-no_node.ensures c.in_ok-repeated.ensures c.in_ok-no_brush.ensures c.locked_layer.ensures
