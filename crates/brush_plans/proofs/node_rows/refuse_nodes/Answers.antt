use Rattle.std.proofs.Common.{sym, ◌∙◌}
use Rattle.map_model.specs.Tree.{whole}
use Rattle.tree_ops.proofs.Outcomes.{err_is}
use Rattle.brush_plans.proofs.FiveRows.{stops_first, stops_second, stops_third, stops_fourth, says_last}
use Rattle.brush_plans.proofs.node_rows.refuse_nodes.Goals as goal

pub returns-in_err-no_node : goal.returns-in_err-no_node
returns-in_err-no_node c =
    err_is c.from_residual.result c.in_err-no_node.field-0.0 c.from_residual.ensures.1
    ∙ stops_first (whole c.args.map.now) c.args.ids.now c.in_err-no_node.field-0.0 (sym c.in_err-no_node.was ∙ c.no_node.ensures)

pub returns-in_err-repeated : goal.returns-in_err-repeated
returns-in_err-repeated c =
    err_is c.from_residual-in_err-repeated.result c.in_err-repeated.field-0.0 c.from_residual-in_err-repeated.ensures.1
    ∙ stops_second (whole c.args.map.now) c.args.ids.now c.in_err-repeated.field-0.0 c.in_ok-no_node.ensures (sym c.in_err-repeated.was ∙ c.repeated.ensures)

pub returns-in_err-wrong_kind : goal.returns-in_err-wrong_kind
returns-in_err-wrong_kind c =
    err_is c.from_residual-in_err-wrong_kind.result c.in_err-wrong_kind.field-0.0 c.from_residual-in_err-wrong_kind.ensures.1
    ∙ stops_third (whole c.args.map.now) c.args.ids.now c.in_err-wrong_kind.field-0.0 c.in_ok-no_node.ensures c.in_ok-repeated.ensures (sym c.in_err-wrong_kind.was ∙ c.wrong_kind.ensures)

pub returns-in_err-nested_ids : goal.returns-in_err-nested_ids
returns-in_err-nested_ids c =
    err_is c.from_residual-in_err-nested_ids.result c.in_err-nested_ids.field-0.0 c.from_residual-in_err-nested_ids.ensures.1
    ∙ stops_fourth (whole c.args.map.now) c.args.ids.now c.in_err-nested_ids.field-0.0 c.in_ok-no_node.ensures c.in_ok-repeated.ensures c.in_ok-wrong_kind.ensures (sym c.in_err-nested_ids.was ∙ c.nested_ids.ensures)

pub returns : goal.returns
returns c =
    says_last (whole c.args.map.now) c.args.ids.now c.locked_layer.result c.in_ok-no_node.ensures c.in_ok-repeated.ensures c.in_ok-wrong_kind.ensures c.in_ok-nested_ids.ensures c.locked_layer.ensures
