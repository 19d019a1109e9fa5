use Rattle.std.proofs.Common.{Err, sym, subst, ap, ◌∙◌}
use Rattle.map_model.specs.Tree.{whole}
use Rattle.map_model.specs.Rows.{first}
use Rattle.map_model.specs.Commands.{plane_in}
use Rattle.brush_plans.specs.NamedRows.{brush_rows}
use Rattle.brush_plans.specs.Saying.{Says}
use Rattle.brush_plans.proofs.RowLoops.{no_row}
use Rattle.tree_ops.specs.declared.fault.OpFault.TheVariants.{No}
use Rattle.cut_plans.specs.Clips.{cut_by, misses_any, AreClipped}
use Rattle.cut_plans.proofs.ClipRows.{are_brushes, parts_of, is_cutting, not_flat, stops_named, stops_flat, stops_missed, clips}
use Rattle.cut_plans.proofs.clip_plans.clipped.Goals as goal

pub returns-in_err-refuse_brushes : goal.returns-in_err-refuse_brushes
returns-in_err-refuse_brushes c =
    stops_named c.args.set.now (whole c.args.map.now) c.args.part c.args.plane c.args.ids.now c.in_err-refuse_brushes.field-0.0 c.from_residual.result c.from_residual.ensures.1
    (sym c.in_err-refuse_brushes.was ∙ c.refuse_brushes.ensures)

pub returns-in_err-plane : goal.returns-in_err-plane
returns-in_err-plane c =
    stops_flat c.args.set.now (whole c.args.map.now) c.args.part c.args.plane c.args.ids.now c.in_ok-refuse_brushes.ensures c.in_err-plane.field-0.0 c.from_residual-in_err-plane.result c.from_residual-in_err-plane.ensures.1
    (sym c.in_err-plane.was ∙ c.plane_of.ensures)

pub refuse_missed-requires-clause-cut : goal.refuse_missed-requires-clause-cut
refuse_missed-requires-clause-cut c = is_cutting c.args.set.now (whole c.args.map.now) c.in_ok-plane.plane c.in_ok-cut.cut c.in_ok-cut.ensures

pub refuse_missed-requires-clause-brushes : goal.refuse_missed-requires-clause-brushes
refuse_missed-requires-clause-brushes c = are_brushes (whole c.args.map.now) c.args.ids.now (no_row (first (brush_rows (whole c.args.map.now) c.args.ids.now)) c.in_ok-refuse_brushes.ensures)

pub returns-in_err-refuse_missed : goal.returns-in_err-refuse_missed
returns-in_err-refuse_missed c =
    let m = whole c.args.map.now in
    let good = not_flat (plane_in c.args.plane) c.in_ok-plane.plane c.in_ok-plane.ensures in
    stops_missed c.args.set.now m c.args.part c.args.plane c.args.ids.now c.in_ok-refuse_brushes.ensures good.0 c.in_err-refuse_missed.field-0.0 c.from_residual-in_err-refuse_missed.result
    c.from_residual-in_err-refuse_missed.ensures.1 (subst (λ k. Says (misses_any m k c.args.ids.now) (Err c.in_err-refuse_missed.field-0.0)) (c.in_ok-cut.ensures ∙ ap (cut_by c.args.set.now m) good.1) c.in_err-refuse_missed.ensures)

pub clip_all-requires : goal.clip_all-requires
clip_all-requires c = record {
  cut = is_cutting c.args.set.now (whole c.args.map.now) c.in_ok-plane.plane c.in_ok-cut.cut c.in_ok-cut.ensures;
  brushes = are_brushes (whole c.args.map.now) c.args.ids.now (no_row (first (brush_rows (whole c.args.map.now) c.args.ids.now)) c.in_ok-refuse_brushes.ensures);
  parts = parts_of (whole c.args.map.now) c.in_ok-cut.cut c.args.ids.now c.in_ok-refuse_missed.ensures;
}

pub returns : goal.returns
returns c =
    let m = whole c.args.map.now in
    let good = not_flat (plane_in c.args.plane) c.in_ok-plane.plane c.in_ok-plane.ensures in
    let cut_is = c.in_ok-cut.ensures ∙ ap (cut_by c.args.set.now m) good.1 in
    clips c.args.set.now m c.args.part c.args.plane c.args.ids.now c.in_ok-refuse_brushes.ensures good.0 (λ b right. sym (ap (λ k. misses_any m k c.args.ids.now b) cut_is) ∙ c.in_ok-refuse_missed.ensures b right)
    c.clip_all.result (subst (λ k. AreClipped m k c.args.part c.args.ids.now c.clip_all.result) cut_is c.clip_all.ensures)
