use Rattle.std.proofs.Common.{sym, ◌∙◌}
use Rattle.map_model.specs.Tree.{whole}
use Rattle.edit_ops.specs.Moving.{points_row}
use Rattle.brush_plans.proofs.RowLoops.{no_row}
use Rattle.edit_ops.proofs.FourRows.{stops_points, stops_world, stops_offsets, stops_origins, passes_all}
use Rattle.edit_ops.proofs.motion_rows.refuse_motion.Goals as goal

pub world-requires-clause-points : goal.world-requires-clause-points
world-requires-clause-points c = no_row (points_row c.args.motion.now (whole c.args.map.now) c.args.ids.now) c.in_ok-points.ensures

pub returns-in_err-points : goal.returns-in_err-points
returns-in_err-points c =
    stops_points c.args.lock c.args.motion.now (whole c.args.map.now) c.args.ids.now c.in_err-points.field-0.0 c.from_residual.result c.from_residual.ensures.1 (sym c.in_err-points.was ∙ c.points.ensures)

pub returns-in_err-world : goal.returns-in_err-world
returns-in_err-world c =
    stops_world c.args.lock c.args.motion.now (whole c.args.map.now) c.args.ids.now c.in_ok-points.ensures c.in_err-world.field-0.0 c.from_residual-in_err-world.result c.from_residual-in_err-world.ensures.1 c.in_err-world.ensures

pub returns-in_err-offsets : goal.returns-in_err-offsets
returns-in_err-offsets c =
    stops_offsets c.args.lock c.args.motion.now (whole c.args.map.now) c.args.ids.now c.in_ok-points.ensures c.in_ok-world.ensures c.in_err-offsets.field-0.0 c.from_residual-in_err-offsets.result
    c.from_residual-in_err-offsets.ensures.1 (sym c.in_err-offsets.was ∙ c.offsets.ensures)

pub returns-in_err-origins : goal.returns-in_err-origins
returns-in_err-origins c =
    stops_origins c.args.lock c.args.motion.now (whole c.args.map.now) c.args.ids.now c.in_ok-points.ensures c.in_ok-world.ensures c.in_ok-offsets.ensures c.in_err-origins.field-0.0 c.from_residual-in_err-origins.result
    c.from_residual-in_err-origins.ensures.1 (sym c.in_err-origins.was ∙ c.origins.ensures)

pub returns : goal.returns
returns c =
    passes_all c.args.lock c.args.motion.now (whole c.args.map.now) c.args.ids.now c.in_ok-points.ensures c.in_ok-world.ensures c.in_ok-offsets.ensures c.in_ok-origins.ensures
