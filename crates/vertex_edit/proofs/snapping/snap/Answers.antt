use Rattle.std.proofs.Common.{◌≡◌, subst, w32, to_z, of_z}
use Rattle.std.proofs.lemmas.Int.{to_z-of_z}
use Rattle.solid_brush.specs.Sides.{half_spaces}
use Rattle.hull_merge.specs.Hulls.{distinct}
use Rattle.vertex_edit.specs.Carrying.{carry}
use Rattle.vertex_edit.specs.Edits.{IsEdit}
use Rattle.vertex_edit.specs.Places.{AreRoundedTo, AreRounded, IsSnapped}
use Rattle.vertex_edit.specs.SnapFaults.{IsNoEditFor, IsNoSnapFor}
use Rattle.vertex_edit.proofs.Rounded.{are_rounded, no_snap}
use Rattle.vertex_edit.proofs.Shifted.{if_ok, if_err}
use Rattle.vertex_edit.proofs.snapping.snap.Goals as goal
use Rattle.vertex_edit.proofs.snapping.snap.Goals.{After-edited}

near : (c : After-edited) → AreRoundedTo c.args.grid c.in_ok-vertices.vertices.items c.in_ok-places.places.items
near c = subst (λ g. AreRoundedTo g c.in_ok-vertices.vertices.items c.in_ok-places.places.items) (to_z-of_z w32 c.args.grid c.ranges.grid)
    (subst (λ V. AreRoundedTo (to_z w32 (of_z w32 c.args.grid)) V c.in_ok-places.places.items) c.deref.ensures.value c.in_ok-places.ensures)

rounded : (c : After-edited) → AreRounded (half_spaces c.args.a.now) c.args.grid (carry c.in_ok-vertices.vertices.items c.in_ok-places.places.items)
rounded c = are_rounded (half_spaces c.args.a.now) c.args.grid c.in_ok-vertices.vertices.items c.in_ok-places.places.items c.in_ok-vertices.ensures.vertices (near c)

pub returns-clause-moved : goal.returns-clause-moved
returns-clause-moved c =
    let F = half_spaces c.args.a.now in let V = c.in_ok-vertices.vertices.items in let places = c.in_ok-places.places.items in
    let r = rounded (goal.at.returns-clause-moved c).After-edited in
    let e : carry c.deref-2.result.now c.deref-3.result.now ≡ carry V places = λ i. carry (c.deref-2.ensures.value i) (c.deref-3.ensures.value i) in
    if_ok (λ m. IsEdit F (carry c.deref-2.result.now c.deref-3.result.now) m.facets m.solid) (λ m. IsSnapped F c.args.grid m.facets m.solid)
    (λ m h. record { vs = carry V places; rounded = r; edit = subst (λ vs. IsEdit F vs m.facets m.solid) e h }) c.edited.result c.edited.ensures.edit

pub returns-clause-fault : goal.returns-clause-fault
returns-clause-fault c =
    let F = half_spaces c.args.a.now in let V = c.in_ok-vertices.vertices.items in let places = c.in_ok-places.places.items in
    let r = rounded (goal.at.returns-clause-fault c).After-edited in let n = (near (goal.at.returns-clause-fault c).After-edited).count in
    if_err (IsNoEditFor (distinct c.deref-3.result.now)) (IsNoSnapFor F c.args.grid)
    (λ fault h. no_snap F c.args.grid V places r n fault (subst (λ ps. IsNoEditFor (distinct ps) fault) c.deref-3.ensures.value h)) c.edited.result c.edited.ensures.fault
