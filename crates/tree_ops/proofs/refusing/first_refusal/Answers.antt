use Rattle.std.proofs.Common.{sym, ◌∙◌}
use Rattle.map_model.specs.Tree.{whole}
use Rattle.map_model.specs.Rows.{no_node, repeated, wrong_kind, nested_ids, locked_layer, reserved_key, no_key}
use Rattle.tree_ops.proofs.FirstRow.{stops_first, stops_second, stops_third, stops_fourth, stops_fifth, stops_sixth, says_last}
use Rattle.tree_ops.proofs.Outcomes.{err_is}
use Rattle.tree_ops.proofs.refusing.first_refusal.Goals as goal

pub returns-in_err-no_node : goal.returns-in_err-no_node
returns-in_err-no_node c =
    let m = whole c.args.map.now in
    let k = c.args.c.now in
    err_is c.from_residual.result c.in_err-no_node.field-0.0 c.from_residual.ensures.1
    ∙ stops_first (no_node m k) (repeated k) (wrong_kind m k) (nested_ids m k) (locked_layer m k) (reserved_key k) (no_key m k) c.in_err-no_node.field-0.0
    (sym c.no_node.ensures ∙ c.in_err-no_node.was)

pub returns-in_err-repeated : goal.returns-in_err-repeated
returns-in_err-repeated c =
    let m = whole c.args.map.now in
    let k = c.args.c.now in
    err_is c.from_residual-in_err-repeated.result c.in_err-repeated.field-0.0 c.from_residual-in_err-repeated.ensures.1
    ∙ stops_second (no_node m k) (repeated k) (wrong_kind m k) (nested_ids m k) (locked_layer m k) (reserved_key k) (no_key m k) c.in_err-repeated.field-0.0
    (sym c.in_ok-no_node.ensures) (sym c.repeated.ensures ∙ c.in_err-repeated.was)

pub returns-in_err-wrong_kind : goal.returns-in_err-wrong_kind
returns-in_err-wrong_kind c =
    let m = whole c.args.map.now in
    let k = c.args.c.now in
    err_is c.from_residual-in_err-wrong_kind.result c.in_err-wrong_kind.field-0.0 c.from_residual-in_err-wrong_kind.ensures.1
    ∙ stops_third (no_node m k) (repeated k) (wrong_kind m k) (nested_ids m k) (locked_layer m k) (reserved_key k) (no_key m k) c.in_err-wrong_kind.field-0.0
    (sym c.in_ok-no_node.ensures) (sym c.in_ok-repeated.ensures) (sym c.wrong_kind.ensures ∙ c.in_err-wrong_kind.was)

pub returns-in_err-nested_ids : goal.returns-in_err-nested_ids
returns-in_err-nested_ids c =
    let m = whole c.args.map.now in
    let k = c.args.c.now in
    err_is c.from_residual-in_err-nested_ids.result c.in_err-nested_ids.field-0.0 c.from_residual-in_err-nested_ids.ensures.1
    ∙ stops_fourth (no_node m k) (repeated k) (wrong_kind m k) (nested_ids m k) (locked_layer m k) (reserved_key k) (no_key m k) c.in_err-nested_ids.field-0.0
    (sym c.in_ok-no_node.ensures) (sym c.in_ok-repeated.ensures) (sym c.in_ok-wrong_kind.ensures) (sym c.nested_ids.ensures ∙ c.in_err-nested_ids.was)

pub returns-in_err-locked_layer : goal.returns-in_err-locked_layer
returns-in_err-locked_layer c =
    let m = whole c.args.map.now in
    let k = c.args.c.now in
    err_is c.from_residual-in_err-locked_layer.result c.in_err-locked_layer.field-0.0 c.from_residual-in_err-locked_layer.ensures.1
    ∙ stops_fifth (no_node m k) (repeated k) (wrong_kind m k) (nested_ids m k) (locked_layer m k) (reserved_key k) (no_key m k) c.in_err-locked_layer.field-0.0
    (sym c.in_ok-no_node.ensures) (sym c.in_ok-repeated.ensures) (sym c.in_ok-wrong_kind.ensures) (sym c.in_ok-nested_ids.ensures) (sym c.locked_layer.ensures ∙ c.in_err-locked_layer.was)

pub returns-in_err-reserved_key : goal.returns-in_err-reserved_key
returns-in_err-reserved_key c =
    let m = whole c.args.map.now in
    let k = c.args.c.now in
    err_is c.from_residual-in_err-reserved_key.result c.in_err-reserved_key.field-0.0 c.from_residual-in_err-reserved_key.ensures.1
    ∙ stops_sixth (no_node m k) (repeated k) (wrong_kind m k) (nested_ids m k) (locked_layer m k) (reserved_key k) (no_key m k) c.in_err-reserved_key.field-0.0
    (sym c.in_ok-no_node.ensures) (sym c.in_ok-repeated.ensures) (sym c.in_ok-wrong_kind.ensures) (sym c.in_ok-nested_ids.ensures) (sym c.in_ok-locked_layer.ensures) (sym c.reserved_key.ensures ∙ c.in_err-reserved_key.was)

pub returns : goal.returns
returns c =
    let m = whole c.args.map.now in
    let k = c.args.c.now in
    says_last (no_node m k) (repeated k) (wrong_kind m k) (nested_ids m k) (locked_layer m k) (reserved_key k) (no_key m k) c.no_key.result
    (sym c.in_ok-no_node.ensures) (sym c.in_ok-repeated.ensures) (sym c.in_ok-wrong_kind.ensures) (sym c.in_ok-nested_ids.ensures) (sym c.in_ok-locked_layer.ensures) (sym c.in_ok-reserved_key.ensures) c.no_key.ensures
