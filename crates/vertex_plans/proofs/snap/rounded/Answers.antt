use Rattle.std.proofs.Common.{sym, ◌∙◌}
use Rattle.map_model.specs.Tree.{whole}
use Rattle.vertex_plans.proofs.SnapOutcomes.{stops_named, brushes, stops_flat, rounds}
use Rattle.vertex_plans.proofs.snap.rounded.Goals as goal

pub returns-in_err-refuse_brushes : goal.returns-in_err-refuse_brushes
returns-in_err-refuse_brushes c =
    stops_named c.args.set.now (whole c.args.map.now) c.args.grid.now c.args.ids.now c.in_err-refuse_brushes.field-0.0 c.from_residual.result c.from_residual.ensures.1
    (sym c.in_err-refuse_brushes.was ∙ c.refuse_brushes.ensures)

pub snap_all-requires : goal.snap_all-requires
snap_all-requires c = record { grid = c.requires.grid; brushes = brushes c.args.set.now (whole c.args.map.now) c.args.grid.now c.args.ids.now c.in_ok-refuse_brushes.ensures }

pub returns-in_err-list : goal.returns-in_err-list
returns-in_err-list c =
    stops_flat c.args.set.now (whole c.args.map.now) c.args.grid.now c.args.ids.now c.in_ok-refuse_brushes.ensures c.in_err-list.field-0.0 c.from_residual-in_err-list.result c.from_residual-in_err-list.ensures.1 c.in_err-list.ensures

pub returns : goal.returns
returns c = rounds c.args.set.now (whole c.args.map.now) c.args.grid.now c.args.ids.now c.in_ok-refuse_brushes.ensures c.in_ok-list.list c.in_ok-list.ensures c.few.result c.few.ensures
