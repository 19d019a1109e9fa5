use Rattle.std.proofs.Common.{◌≡◌, refl, map, ap, ◌∙◌, sym, subst, IfSome, IsTrue, length}
use Rattle.algebra.specs.Members.{◌∈◌, Every}
use Rattle.exact_geom.specs.Planes.{is_in_range}
use Rattle.solid_brush.specs.Sides.{half_spaces}
use Rattle.hull_merge.specs.Hulls.{distinct}
use Rattle.hull_merge.specs.Gathered.{whole_of}
use Rattle.vertex_edit.specs.Carrying.{carry}
use Rattle.vertex_edit.specs.Edits.{IsEdit}
use Rattle.vertex_edit.specs.Places.{IsInWorld, AreShifted, IsMoved, place_of}
use Rattle.vertex_edit.specs.MoveFaults.{IsNoEditFor, IsNoMoveFor}
use Rattle.vertex_edit.proofs.Shifted.{all_whole, picks_in_world, points_in_world, places_in_range, place_count, are_shifted, is_moved, no_move, if_ok, if_err}
use Rattle.vertex_edit.proofs.moving.move_vertices.Goals as goal
use Rattle.vertex_edit.proofs.moving.move_vertices.Goals.{In-Some-2, After-edited}

picked : (c : In-Some-2) → Every (λ q. whole_of q ∈ c.in_ok-vertices.vertices.items) c.args.picks.now
picked c = subst (λ V. Every (λ q. whole_of q ∈ V) c.args.picks.now) c.deref.ensures.value (c.in_default.ensures.none refl)

whole : (c : In-Some-2) → map whole_of c.in-Some-2.points.items ≡ c.in_ok-vertices.vertices.items
whole c = subst (λ o. IfSome o (λ points. map whole_of points.items ≡ c.deref-2.result.now)) c.in-Some-2.is c.in_ok-points.ensures.some ∙ c.deref-2.ensures.value

pub first_far-requires-clause-world : goal.first_far-requires-clause-world
first_far-requires-clause-world c = picks_in_world c.in_ok-vertices.vertices.items c.args.picks.now c.in_ok-vertices.ensures.world (picked (goal.at.first_far-requires-clause-world c).In-Some-2)

pub returns-in-Some-first_far-clause-fault : goal.returns-in-Some-first_far-clause-fault
returns-in-Some-first_far-clause-fault c = record {
  V = c.in_ok-vertices.vertices.items;
  vertices = c.in_ok-vertices.ensures.vertices;
  cause = (
    picked (goal.at.returns-in-Some-first_far-clause-fault c).In-Some-2,
    all_whole c.in-Some-2.points.items c.in_ok-vertices.vertices.items (whole (goal.at.returns-in-Some-first_far-clause-fault c).In-Some-2),
    record { place = c.in-Some-first_far.k; number = refl; first = c.in-Some-first_far.ensures.some },
  );
}

pub places_of-requires-clause-world : goal.places_of-requires-clause-world
places_of-requires-clause-world c = subst (Every IsInWorld) (sym c.deref-3.ensures.value)
    (points_in_world c.in_ok-vertices.vertices.items c.in-Some-2.points.items c.in_ok-vertices.ensures.world (whole (goal.at.places_of-requires-clause-world c).In-Some-2))

pub edited-requires-clause-range : goal.edited-requires-clause-range
edited-requires-clause-range c =
    let world = points_in_world c.in_ok-vertices.vertices.items c.in-Some-2.points.items c.in_ok-vertices.ensures.world (whole (goal.at.edited-requires-clause-range c).In-Some-2) in
    subst (Every (λ p. IsTrue (is_in_range p))) (sym (c.deref-5.ensures.value ∙ c.in_ok-places.ensures ∙ ap (map (place_of c.args.picks.now c.args.shift)) c.deref-3.ensures.value))
    (places_in_range c.args.shift c.args.picks.now c.in-Some-2.points.items (c.in_default-first_far.ensures.none refl) world)

shifted : (c : After-edited) → map whole_of c.in-Some-2.points.items ≡ c.in_ok-vertices.vertices.items → Every (λ q. whole_of q ∈ c.in_ok-vertices.vertices.items) c.args.picks.now →
    AreShifted (half_spaces c.args.a.now) c.args.picks.now c.args.shift (carry c.in_ok-vertices.vertices.items c.in_ok-places.places.items)
shifted c w k = are_shifted (half_spaces c.args.a.now) c.args.shift c.args.picks.now c.in-Some-2.points.items c.in_ok-vertices.vertices.items c.in_ok-places.places.items c.in_ok-vertices.ensures.vertices
    w k (c.in_default-first_far.ensures.none refl) (c.in_ok-places.ensures ∙ ap (map (place_of c.args.picks.now c.args.shift)) c.deref-3.ensures.value)

count : (c : After-edited) → map whole_of c.in-Some-2.points.items ≡ c.in_ok-vertices.vertices.items → length c.in_ok-places.places.items ≡ length c.in_ok-vertices.vertices.items
count c w = ap length (c.in_ok-places.ensures ∙ ap (map (place_of c.args.picks.now c.args.shift)) c.deref-3.ensures.value)
    ∙ place_count c.args.shift c.args.picks.now c.in-Some-2.points.items c.in_ok-vertices.vertices.items w

pub returns-clause-moved : goal.returns-clause-moved
returns-clause-moved c =
    let F = half_spaces c.args.a.now in let V = c.in_ok-vertices.vertices.items in let places = c.in_ok-places.places.items in
    let w = whole (goal.at.returns-clause-moved c).In-Some-2 in let k = picked (goal.at.returns-clause-moved c).In-Some-2 in
    let s = shifted (goal.at.returns-clause-moved c).After-edited w k in
    let e : carry c.deref-4.result.now c.deref-5.result.now ≡ carry V places = λ i. carry (c.deref-4.ensures.value i) (c.deref-5.ensures.value i) in
    if_ok (λ m. IsEdit F (carry c.deref-4.result.now c.deref-5.result.now) m.facets m.solid) (λ m. IsMoved F c.args.picks.now c.args.shift m.facets m.solid)
    (λ m h. is_moved F c.args.shift c.args.picks.now (carry V places) m.facets m.solid s (subst (λ vs. IsEdit F vs m.facets m.solid) e h)) c.edited.result c.edited.ensures.edit

pub returns-clause-fault : goal.returns-clause-fault
returns-clause-fault c =
    let F = half_spaces c.args.a.now in let V = c.in_ok-vertices.vertices.items in let places = c.in_ok-places.places.items in
    let w = whole (goal.at.returns-clause-fault c).In-Some-2 in let k = picked (goal.at.returns-clause-fault c).In-Some-2 in
    let s = shifted (goal.at.returns-clause-fault c).After-edited w k in let n = count (goal.at.returns-clause-fault c).After-edited w in
    if_err (IsNoEditFor (distinct c.deref-5.result.now)) (IsNoMoveFor F c.args.picks.now c.args.shift)
    (λ fault h. no_move F c.args.shift c.args.picks.now V places s n fault (subst (λ ps. IsNoEditFor (distinct ps) fault) c.deref-5.ensures.value h)) c.edited.result c.edited.ensures.fault
