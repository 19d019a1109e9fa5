use Rattle.std.proofs.Common.{◌<◌, ◌^◌, length, map, IsTrue, Ok, Err, ap, sym, subst, ◌∙◌}
use Rattle.algebra.specs.Members.{Every}
use Rattle.exact_geom.specs.Planes.{is_in_range}
use Rattle.solid_brush.specs.declared.side.Side.{Side}
use Rattle.map_nodes.specs.Seen.{sides_of}
use Rattle.map_model.specs.Tree.{whole}
use Rattle.map_model.specs.Rows.{all_faces, fields_for, first_of}
use Rattle.hull_plans.specs.Hulls.{IsHullAt}
use Rattle.hull_plans.proofs.MergeRows.{stops_named, brushes, stops_fraction, ranges_of, first_is, stops_hull, fits, merges}
use Rattle.hull_plans.proofs.FirstFaces.{side_bounds}
use Rattle.hull_plans.proofs.merging.merged.Goals as goal

pub returns-in_err-refuse_brushes : goal.returns-in_err-refuse_brushes
returns-in_err-refuse_brushes c =
    stops_named c.args.set.now (whole c.args.map.now) c.args.ids.now c.in_err-refuse_brushes.field-0.0 c.from_residual.result c.from_residual.ensures.1
    (sym c.in_err-refuse_brushes.was ∙ c.refuse_brushes.ensures)

pub corners_of-requires-clause-brushes : goal.corners_of-requires-clause-brushes
corners_of-requires-clause-brushes c = brushes c.args.set.now (whole c.args.map.now) c.args.ids.now c.in_ok-refuse_brushes.ensures

pub returns-in_err-corners : goal.returns-in_err-corners
returns-in_err-corners c =
    stops_fraction c.args.set.now (whole c.args.map.now) c.args.ids.now c.in_ok-refuse_brushes.ensures c.in_err-corners.field-0.0 c.from_residual-in_err-corners.result c.from_residual-in_err-corners.ensures.1
    c.in_err-corners.ensures

pub hull_at-requires-clause-few : goal.hull_at-requires-clause-few
hull_at-requires-clause-few c = subst (λ l. length l < 2 ^ 32) (sym c.list.ensures) c.in_ok-corners.ensures.few

pub hull_at-requires-clause-range : goal.hull_at-requires-clause-range
hull_at-requires-clause-range c =
    subst (Every (λ p. IsTrue (is_in_range p))) (sym c.list.ensures) (ranges_of c.in_ok-corners.corners c.in_ok-corners.ensures.within)

pub returns-in_err-solid : goal.returns-in_err-solid
returns-in_err-solid c =
    let ids = c.args.ids.now in
    let node = c.number.ensures ∙ c.index-ids-0.is ∙ first_is ids c.index-ids-0.result c.requires.some in
    let hull = subst (λ l. IsHullAt (first_of ids) l (Err c.in_err-solid.field-0.0)) c.list.ensures (subst (λ n. IsHullAt n c.list.result.now (Err c.in_err-solid.field-0.0)) node c.in_err-solid.ensures) in
    stops_hull c.args.set.now (whole c.args.map.now) ids c.in_ok-refuse_brushes.ensures c.is_map.ensures c.requires.some c.in_ok-corners.corners c.in_ok-corners.ensures
    c.in_err-solid.field-0.0 c.from_residual-in_err-solid.result c.from_residual-in_err-solid.ensures.1 hull

pub faces_on-requires-clause-brushes : goal.faces_on-requires-clause-brushes
faces_on-requires-clause-brushes c = brushes c.args.set.now (whole c.args.map.now) c.args.ids.now c.in_ok-refuse_brushes.ensures

pub faces_on-requires-clause-bounds : goal.faces_on-requires-clause-bounds
faces_on-requires-clause-bounds c =
    side_bounds c.in_ok-solid.solid c.sides.ensures.solid c.deref.result.now (c.deref.ensures.value ∙ c.in_ok-planes.ensures ∙ ap (map (λ (side : Side). side.plane)) c.sides.ensures.sides)

pub of-requires : goal.of-requires
of-requires c =
    let ids = c.args.ids.now in
    let node = c.number.ensures ∙ c.index-ids-0.is ∙ first_is ids c.index-ids-0.result c.requires.some in
    let hull = subst (λ l. IsHullAt (first_of ids) l (Ok c.in_ok-solid.solid)) c.list.ensures (subst (λ n. IsHullAt n c.list.result.now (Ok c.in_ok-solid.solid)) node c.in_ok-solid.ensures) in
    let s = c.args.set.now in
    let m = whole c.args.map.now in
    let planes = c.in_ok-planes.ensures ∙ ap (map (λ (side : Side). side.plane)) c.sides.ensures.sides in
    let faces = c.in_ok-faces.ensures ∙ ap (map (fields_for s m (all_faces m ids))) c.deref.ensures.value in
    record {
      fits = fits s m ids c.in_ok-refuse_brushes.ensures c.is_map.ensures c.requires.some c.in_ok-corners.corners c.in_ok-corners.ensures c.in_ok-solid.solid c.in_ok-planes.planes.items c.in_ok-faces.faces.items
          hull planes faces ∙ ap sides_of (sym c.of-rows.ensures);
    }

pub returns : goal.returns
returns c =
    let ids = c.args.ids.now in
    let node = c.number.ensures ∙ c.index-ids-0.is ∙ first_is ids c.index-ids-0.result c.requires.some in
    let hull = subst (λ l. IsHullAt (first_of ids) l (Ok c.in_ok-solid.solid)) c.list.ensures (subst (λ n. IsHullAt n c.list.result.now (Ok c.in_ok-solid.solid)) node c.in_ok-solid.ensures) in
    let s = c.args.set.now in
    let m = whole c.args.map.now in
    let planes = c.in_ok-planes.ensures ∙ ap (map (λ (side : Side). side.plane)) c.sides.ensures.sides in
    let faces = c.in_ok-faces.ensures ∙ ap (map (fields_for s m (all_faces m ids))) c.deref.ensures.value in
    merges s m ids c.in_ok-refuse_brushes.ensures c.is_map.ensures c.requires.some c.in_ok-corners.corners c.in_ok-corners.ensures c.in_ok-solid.solid c.in_ok-planes.planes.items c.in_ok-faces.faces.items
    hull planes faces c.of.result (c.of.ensures ∙ c.of-rows.ensures)
