use Rattle.std.specs.Prelude.{not}
use Rattle.std.proofs.Common.{ap, ◌∙◌, Err}
use Rattle.map_model.specs.Tree.{whole}
use Rattle.map_model.specs.Rows.{is_movable, kind_passes}
use Rattle.map_model.specs.Replies.{WrongKind}
use Rattle.tree_ops.proofs.RowLoops.{refused_at, passed_one, passed_all, refused_where, passed_where}
use Rattle.brush_plans.proofs.node_rows.wrong_kind.Goals as goal

pub loop-id-preserved : goal.loop-id-preserved
loop-id-preserved c = passed_one (λ n. not (kind_passes (whole c.args.map.now) is_movable n)) WrongKind c.args.ids.now c.loop-id.id-index c.id-item.result c.loop-id-test.true c.id-item.is c.loop-id.invariant
    (passed_where c.can_be_moved.ensures c.if-not-can_be_moved.false)

pub returns-then-not-can_be_moved : goal.returns-then-not-can_be_moved
returns-then-not-can_be_moved c = ap (λ n. Err (WrongKind n)) c.number.ensures ∙ refused_at (λ n. not (kind_passes (whole c.args.map.now) is_movable n)) WrongKind c.args.ids.now c.loop-id.id-index c.id-item.result
    c.loop-id-test.true c.id-item.is c.loop-id.invariant (refused_where c.can_be_moved.ensures c.if-not-can_be_moved.true)

pub returns : goal.returns
returns c = passed_all (λ n. not (kind_passes (whole c.args.map.now) is_movable n)) WrongKind c.args.ids.now c.loop-id.id-index c.loop-id-test.false c.loop-id.invariant
