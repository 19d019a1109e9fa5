use Rattle.std.proofs.Common.{w32, subst, sym, ◌∙◌}
use Rattle.std.proofs.lemmas.Int.{to_z-of_z}
use Rattle.map_model.specs.Tree.{whole}
use Rattle.map_model.specs.Rows.{first}
use Rattle.csg_ops.specs.Hollows.{IsThickness}
use Rattle.brush_plans.specs.NamedRows.{brush_rows}
use Rattle.brush_plans.proofs.RowLoops.{no_row}
use Rattle.cut_plans.proofs.ClipRows.{are_brushes}
use Rattle.hollow_plans.specs.Walls.{AreHollowed}
use Rattle.hollow_plans.proofs.HollowRows.{are_boxes, stops_named, stops_other, hollows}
use Rattle.hollow_plans.proofs.hollowing.hollowed.Goals as goal

pub returns-in_err-refuse_brushes : goal.returns-in_err-refuse_brushes
returns-in_err-refuse_brushes c =
    stops_named (whole c.args.map.now) c.args.thickness c.args.ids.now c.in_err-refuse_brushes.field-0.0 c.from_residual.result c.from_residual.ensures.1
    (sym c.in_err-refuse_brushes.was ∙ c.refuse_brushes.ensures)

pub refuse_other_brushes-requires : goal.refuse_other_brushes-requires
refuse_other_brushes-requires c = record {
  brushes = are_brushes (whole c.args.map.now) c.args.ids.now (no_row (first (brush_rows (whole c.args.map.now) c.args.ids.now)) c.in_ok-refuse_brushes.ensures);
}

pub returns-in_err-refuse_other_brushes : goal.returns-in_err-refuse_other_brushes
returns-in_err-refuse_other_brushes c =
    stops_other (whole c.args.map.now) c.args.thickness c.args.ids.now c.in_ok-refuse_brushes.ensures c.in_err-refuse_other_brushes.field-0.0 c.from_residual-in_err-refuse_other_brushes.result
    c.from_residual-in_err-refuse_other_brushes.ensures.1 (sym c.in_err-refuse_other_brushes.was ∙ c.refuse_other_brushes.ensures)

pub hollow_all-requires : goal.hollow_all-requires
hollow_all-requires c = record {
  thickness = subst IsThickness (sym (to_z-of_z w32 c.args.thickness c.ranges.thickness)) c.requires.thickness;
  brushes = are_brushes (whole c.args.map.now) c.args.ids.now (no_row (first (brush_rows (whole c.args.map.now) c.args.ids.now)) c.in_ok-refuse_brushes.ensures);
  boxes = are_boxes (whole c.args.map.now) c.args.ids.now c.in_ok-refuse_other_brushes.ensures;
}

pub returns : goal.returns
returns c =
    hollows (whole c.args.map.now) c.args.thickness c.args.ids.now c.in_ok-refuse_brushes.ensures c.in_ok-refuse_other_brushes.ensures c.hollow_all.result
    (subst (λ t. AreHollowed (whole c.args.map.now) t c.args.ids.now c.hollow_all.result) (to_z-of_z w32 c.args.thickness c.ranges.thickness) c.hollow_all.ensures)
