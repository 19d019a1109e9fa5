use Rattle.std.proofs.Common.{◌≡◌, ◌≤◌, ◌∷◌, length, None, Some, Ok, Err, ap, sym, subst, ◌∙◌, arith}
use Rattle.map_model.specs.Tree.{whole}
use Rattle.map_model.specs.Rows.{first}
use Rattle.cut_plans.proofs.IntersectRows.{brushes, stops_named}
use Rattle.cut_plans.proofs.CommonParts.{some_solids, solid_tags, few_faces_of_all, part_told, part_is, place_within, first_apart_told, overfull_told}
use Rattle.cut_plans.proofs.intersect_plans.intersected.Goals as goal

pub returns-in_err-refuse_brushes : goal.returns-in_err-refuse_brushes
returns-in_err-refuse_brushes c =
    stops_named c.args.set.now (whole c.args.map.now) c.args.ids.now c.in_err-refuse_brushes.field-0.0 c.from_residual.result c.from_residual.ensures.1 (sym c.in_err-refuse_brushes.was ∙ c.refuse_brushes.ensures)

pub all_faces-requires : goal.all_faces-requires
all_faces-requires c = record { brushes = brushes c.args.set.now (whole c.args.map.now) c.args.ids.now c.in_ok-refuse_brushes.ensures c.is_map.ensures c.requires.some }

pub solids_in_turn-requires-clause-brushes : goal.solids_in_turn-requires-clause-brushes
solids_in_turn-requires-clause-brushes c = brushes c.args.set.now (whole c.args.map.now) c.args.ids.now c.in_ok-refuse_brushes.ensures c.is_map.ensures c.requires.some

pub intersect-requires-clause-some : goal.intersect-requires-clause-some
intersect-requires-clause-some c =
    some_solids c.args.set.now (whole c.args.map.now) c.args.ids.now c.in_ok-refuse_brushes.ensures c.is_map.ensures c.requires.some c.deref.result.now (c.deref.ensures.value ∙ c.in_ok-solids.ensures)

pub intersect-requires-clause-tags : goal.intersect-requires-clause-tags
intersect-requires-clause-tags c =
    solid_tags c.args.set.now (whole c.args.map.now) c.args.ids.now c.in_ok-refuse_brushes.ensures c.is_map.ensures c.requires.some c.deref.result.now (c.deref.ensures.value ∙ c.in_ok-solids.ensures) c.requires.few

pub body_of_all-requires-clause-few : goal.body_of_all-requires-clause-few
body_of_all-requires-clause-few c =
    few_faces_of_all c.args.set.now (whole c.args.map.now) c.args.ids.now c.in_ok-refuse_brushes.ensures c.is_map.ensures c.requires.some c.deref.result.now (c.deref.ensures.value ∙ c.in_ok-solids.ensures)
    c.deref-in-Ok.result.now (c.deref-in-Ok.ensures.value ∙ c.in_ok-faces.ensures) c.requires.few

pub body_of_all-requires-clause-told : goal.body_of_all-requires-clause-told
body_of_all-requires-clause-told c =
    part_told c.args.set.now (whole c.args.map.now) c.args.ids.now c.in_ok-refuse_brushes.ensures c.is_map.ensures c.requires.some c.deref.result.now (c.deref.ensures.value ∙ c.in_ok-solids.ensures)
    c.deref-in-Ok.result.now (c.deref-in-Ok.ensures.value ∙ c.in_ok-faces.ensures) c.in-Ok.solid c.in-Ok.ensures.common

pub returns-in-Ok : goal.returns-in-Ok
returns-in-Ok c =
    part_is c.args.set.now (whole c.args.map.now) c.args.ids.now c.in_ok-refuse_brushes.ensures c.is_map.ensures c.requires.some c.deref.result.now (c.deref.ensures.value ∙ c.in_ok-solids.ensures)
    c.deref-in-Ok.result.now (c.deref-in-Ok.ensures.value ∙ c.in_ok-faces.ensures) c.in-Ok.solid c.in-Ok.ensures.common c.in_ok-body-in-Ok.body c.in-Ok.ensures.solid c.in_ok-body-in-Ok.ensures

pub bounds-ids-place : goal.bounds-ids-place
bounds-ids-place c =
    let h = rw c.in-Err-Apart.field-0-is at c.in-Err-Apart.ensures.fault in
    let within = place_within c.args.set.now (whole c.args.map.now) c.args.ids.now c.in_ok-refuse_brushes.ensures c.is_map.ensures c.requires.some c.deref.result.now (c.deref.ensures.value ∙ c.in_ok-solids.ensures) c.in-Err-Apart.place h in
    omega (arith, within, c.in-Err-Apart.place-is)

pub returns-in-Err-Apart : goal.returns-in-Err-Apart
returns-in-Err-Apart c =
    let h = rw c.in-Err-Apart.field-0-is at c.in-Err-Apart.ensures.fault in
    first_apart_told c.args.set.now (whole c.args.map.now) c.args.ids.now c.in_ok-refuse_brushes.ensures c.is_map.ensures c.requires.some c.deref.result.now (c.deref.ensures.value ∙ c.in_ok-solids.ensures)
    _ c.in-Err-Apart.place c.index-ids-place.result c.number.result c.in-Err-Apart.place-is c.index-ids-place.is c.number.ensures h

pub returns-in-Err-TooManyFaces : goal.returns-in-Err-TooManyFaces
returns-in-Err-TooManyFaces c =
    let h = rw c.in-Err-TooManyFaces.field-0-is at c.in-Err-TooManyFaces.ensures.fault in
    let count : c.in-Err-TooManyFaces.count ≡ c.from.result = omega (arith, c.from.ensures, c.in-Err-TooManyFaces.count-is) in
    overfull_told c.args.set.now (whole c.args.map.now) c.args.ids.now c.in_ok-refuse_brushes.ensures c.is_map.ensures c.requires.some c.deref.result.now (c.deref.ensures.value ∙ c.in_ok-solids.ensures)
    _ c.in-Err-TooManyFaces.count c.index-ids-0.result c.number-in-Err-TooManyFaces.result c.from.result c.index-ids-0.is c.number-in-Err-TooManyFaces.ensures count h
