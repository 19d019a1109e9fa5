use Rattle.std.proofs.Common.{sym, ◌∙◌}
use Rattle.map_model.specs.Tree.{whole, at}
use Rattle.tree_ops.proofs.Outcomes.{err_is}
use Rattle.edit_ops.specs.Moving.{points_of}
use Rattle.brush_plans.proofs.RowLoops.{stops, goes_on, all_pass}
use Rattle.edit_ops.proofs.motion_rows.points.Goals as goal

pub loop-id-preserved : goal.loop-id-preserved
loop-id-preserved c =
    goes_on (λ n. points_of c.args.motion.now n (at (whole c.args.map.now) n)) c.args.ids.now c.loop-id.id-index c.id-item.result c.loop-id-test.true c.id-item.is c.loop-id.invariant c.in_ok-points_of.ensures

pub returns-in_err-points_of : goal.returns-in_err-points_of
returns-in_err-points_of c =
    err_is c.from_residual.result c.in_err-points_of.field-0.0 c.from_residual.ensures.1
    ∙ stops (λ n. points_of c.args.motion.now n (at (whole c.args.map.now) n)) c.args.ids.now c.loop-id.id-index c.id-item.result c.loop-id-test.true c.id-item.is c.loop-id.invariant c.in_err-points_of.field-0.0
    (sym c.in_err-points_of.was ∙ c.points_of.ensures)

pub returns : goal.returns
returns c = all_pass (λ n. points_of c.args.motion.now n (at (whole c.args.map.now) n)) c.args.ids.now c.loop-id.id-index c.loop-id-test.false c.loop-id.invariant
