use Rattle.map_model.specs.Tree.{whole}
use Rattle.map_model.specs.Rows.{is_in_frozen}
use Rattle.map_model.specs.Replies.{LockedLayer}
use Rattle.std.proofs.Common.{sym, ap, ◌∙◌, Err}
use Rattle.tree_ops.proofs.RowLoops.{refused_at, passed_one, passed_all}
use Rattle.tree_ops.proofs.rows.locked_layer.Goals as goal

pub loop-id-preserved : goal.loop-id-preserved
loop-id-preserved c = passed_one (is_in_frozen (whole c.args.map.now)) LockedLayer c.args.ids.now c.loop-id.id-index c.id-item.result c.loop-id-test.true c.id-item.is c.loop-id.invariant
    (sym c.is_in_frozen.ensures ∙ c.if-is_in_frozen.false)

pub returns-then-is_in_frozen : goal.returns-then-is_in_frozen
returns-then-is_in_frozen c = ap (λ n. Err (LockedLayer n)) c.number.ensures ∙ refused_at (is_in_frozen (whole c.args.map.now)) LockedLayer c.args.ids.now c.loop-id.id-index c.id-item.result c.loop-id-test.true c.id-item.is c.loop-id.invariant
    (sym c.is_in_frozen.ensures ∙ c.if-is_in_frozen.true)

pub returns : goal.returns
returns c = passed_all (is_in_frozen (whole c.args.map.now)) LockedLayer c.args.ids.now c.loop-id.id-index c.loop-id-test.false c.loop-id.invariant
