use Rattle.std.specs.Prelude.{not}
use Rattle.std.proofs.Common.{ap, ◌∙◌, Err}
use Rattle.map_model.specs.Tree.{whole, is_brush}
use Rattle.map_model.specs.Replies.{WrongKind}
use Rattle.tree_ops.proofs.RowLoops.{refused_at, passed_one, passed_all, refused_where, passed_where}
use Rattle.brush_plans.proofs.brush_rows.no_brush.Goals as goal

pub loop-id-preserved : goal.loop-id-preserved
loop-id-preserved c = passed_one (λ n. not (is_brush (whole c.args.map.now) n)) WrongKind c.args.ids.now c.loop-id.id-index c.id-item.result c.loop-id-test.true c.id-item.is c.loop-id.invariant
    (passed_where c.is_brush.ensures c.if-not-is_brush.false)

pub returns-then-not-is_brush : goal.returns-then-not-is_brush
returns-then-not-is_brush c = ap (λ n. Err (WrongKind n)) c.number.ensures ∙ refused_at (λ n. not (is_brush (whole c.args.map.now) n)) WrongKind c.args.ids.now c.loop-id.id-index c.id-item.result
    c.loop-id-test.true c.id-item.is c.loop-id.invariant (refused_where c.is_brush.ensures c.if-not-is_brush.true)

pub returns : goal.returns
returns c = passed_all (λ n. not (is_brush (whole c.args.map.now) n)) WrongKind c.args.ids.now c.loop-id.id-index c.loop-id-test.false c.loop-id.invariant
