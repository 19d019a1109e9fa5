use Rattle.std.proofs.Common.{refl}
use Rattle.map_model.specs.Tree.{whole, at}
use Rattle.map_laws.proofs.Refused.{each_none}
use Rattle.edit_ops.specs.Moving.{points_of, world_of, world_row}
use Rattle.brush_plans.proofs.Lists.{is_member}
use Rattle.brush_plans.proofs.RowLoops.{passed_row, stopped_row, passed_all, says_stop, says_err}
use Rattle.edit_ops.proofs.motion_rows.world.Goals as goal

pub world_of-requires-clause-points : goal.world_of-requires-clause-points
world_of-requires-clause-points c =
    each_none c.args.ids.now (λ n. points_of c.args.motion.now n (at (whole c.args.map.now) n)) c.requires.points c.id-item.result
    (is_member c.args.ids.now c.loop-id.id-index c.id-item.result c.loop-id-test.true c.id-item.is)

pub loop-id-init : goal.loop-id-init
loop-id-init c = λ b right. record { rest = refl }

pub loop-id-preserved : goal.loop-id-preserved
loop-id-preserved c = λ b right.
    passed_row (λ n. world_of c.args.motion.now n (at (whole c.args.map.now) n) b) c.args.ids.now c.loop-id.id-index c.id-item.result c.loop-id-test.true c.id-item.is (c.loop-id.invariant b right)
    (c.in_ok-world_of.ensures b right)

pub returns-in_err-world_of : goal.returns-in_err-world_of
returns-in_err-world_of c =
    let m = whole c.args.map.now in
    let r = c.args.motion.now in
    says_err (world_row r m c.args.ids.now) c.from_residual.result c.in_err-world_of.field-0.0 c.from_residual.ensures.1
    (says_stop (world_of r c.id-item.result (at m c.id-item.result)) (world_row r m c.args.ids.now)
    (λ b right x e. stopped_row (λ n. world_of r n (at m n) b) c.args.ids.now c.loop-id.id-index c.id-item.result c.loop-id-test.true c.id-item.is (c.loop-id.invariant b right) x e)
    c.in_err-world_of.field-0.0 c.in_err-world_of.ensures)

pub returns : goal.returns
returns c = λ b right.
    passed_all (λ n. world_of c.args.motion.now n (at (whole c.args.map.now) n) b) c.args.ids.now c.loop-id.id-index c.loop-id-test.false (c.loop-id.invariant b right)
