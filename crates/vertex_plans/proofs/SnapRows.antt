-- One brush whose vertices are rounded, in the words of maps.
use Rattle.std.proofs.Common.{◌≡◌, ℕ, ◌<◌, ◌≤◌, List, [], ◌∷◌, length, map, flat_map, cond, Bool, true, false, not, IsTrue, Option, None, Some, Ok, Err, refl, ap, sym, ◌∙◌, subst, arith, ℤ, pos, ◌<ℤ◌}
use Rattle.std.specs.Prelude.{nat_lt}
use Rattle.std.proofs.lemmas.Bool.Decides.{Decides-ltb}
use Rattle.algebra.specs.Members.{◌∈◌, Every}
use Rattle.algebra.specs.Space.{Homogeneous}
use Rattle.exact_geom.specs.declared.point.Point.{Point}
use Rattle.exact_geom.specs.Planes.{vector, is_in_range}
use Rattle.exact_geom.specs.Rounding.{IsGrid}
use Rattle.trim_laws.specs.Valid.{Valid}
use Rattle.hull_laws.specs.Facets.{Spans}
use Rattle.hull_laws.specs.Moved.{Carried, moved_points}
use Rattle.hull_merge.specs.Hulls.{HasFacets}
use Rattle.solid_brush.specs.declared.side.Side.{Side}
use Rattle.map_model.specs.Faces.{Face}
use Rattle.map_model.specs.Shape.{half_spaces}
use Rattle.map_model.specs.Below.{Below, IsRight}
use Rattle.map_model.specs.Brushes.{facets, with_fields_of, changed_faces, changed_points, rounded, spans_space}
use Rattle.map_model.specs.Replies.{Refusal, NoVolume}
use Rattle.map_model.specs.Rows.{refuse}
use Rattle.map_model.proofs.Meaning.{vertices_law}
use Rattle.map_model.proofs.Members.{in_map, map_in}
use Rattle.map_laws.proofs.RoundedPoints.{rounded_world}
use Rattle.vertex_edit.specs.declared.shape.FromFace.{FromFace}
use Rattle.vertex_edit.specs.Edits.{IsEdit}
use Rattle.vertex_edit.specs.Places as places
use Rattle.vertex_edit.specs.SnapFaults.{HaveRounded, IsNoEditFor}
use Rattle.vertex_edit.specs.declared.snap_fault.SnapFault.TheVariants.{NoVolume as Flat, TooManyFaces as ManyFaces}
use Rattle.map_model.specs.Tree.{Whole, faces_at}
use Rattle.vertex_plans.specs.Remade.{ComeFrom, AreFacesOn}
use Rattle.vertex_plans.specs.declared.putting.NewBody.{NewBody}
use Rattle.vertex_plans.specs.declared.snapping.Snapped.{Snapped}
use Rattle.vertex_plans.specs.declared.snapping.Snapped.TheVariants.{Few, Many}
use Rattle.vertex_plans.specs.Snaps.{flat, IsSnapped}
use Rattle.vertex_plans.proofs.Changed.{carried, goals, come_from, faces_are}
use Rattle.vertex_plans.proofs.Destinations.{spans_yes, spans_no, facet_count, few_sides}
use Rattle.vertex_plans.proofs.Nearests.{rounded_all}
use Rattle.vertex_plans.proofs.Picked.{distinct_in, near_point}

module _ (fs : List Face) (grid : ℤ) (is_grid : IsGrid grid) (valid : Valid (half_spaces fs)) where
  some : 0 < length fs
  some = by fs valid.least
    where
      by : (gs : List Face) → 4 ≤ length (half_spaces gs) → 0 < length gs
      by [] l = absurd (omega (arith, l))
      by (g ∷ gs) l = omega arith

  abbrev faces_of : List Homogeneous → List Face
  faces_of V = flat_map (with_fields_of (rounded grid) V fs) (facets (goals (rounded grid) V))

  module _ (vs : List Carried) (are : places.AreRounded (half_spaces fs) grid vs) where
    abbrev V : List Homogeneous
    V = map (λ (v : Carried). v.old) vs

    positive : (v : Homogeneous) → v ∈ V → pos 0 <ℤ v.weight
    positive v i = (are.vertices.each v i).0.inside.weight

    vs_are : vs ≡ carried (rounded grid) V
    vs_are = rounded_all grid vs is_grid (λ v i. positive v.old (map_in (λ (v : Carried). v.old) vs v i)) are.rounded

    near : (p : Point) → p ∈ goals (rounded grid) V → IsTrue (is_in_range p)
    near p i =
        let v = in_map (rounded grid) V p (distinct_in (map (rounded grid) V) p i) in
        let w = rounded_world grid v.0 is_grid (positive v.0 v.1) (valid.within v.0 (are.vertices.each v.0 v.1).0.inside) in
        subst (λ q. IsTrue (is_in_range q)) (sym v.2) (near_point (rounded grid v.0) w.within)

    vertices_are : (b : Below) → IsRight b → changed_faces b (rounded grid) fs ≡ faces_of V
    vertices_are b right = ap faces_of (vertices_law b fs V right valid are.vertices)

    goals_are : (b : Below) → IsRight b → changed_points b (rounded grid) fs ≡ goals (rounded grid) V
    goals_are b right = ap (goals (rounded grid)) (vertices_law b fs V right valid are.vertices)

    pub spans_row : (n : ℕ) → Spans (moved_points vs) → (b : Below) → IsRight b → refuse (not (spans_space (changed_points b (rounded grid) fs))) (NoVolume n) ≡ None
    spans_row n s b right = ap (λ t. refuse (not t) (NoVolume n)) (ap spans_space (goals_are b right) ∙ spans_yes (rounded grid) V (subst (λ ws. Spans (moved_points ws)) vs_are s))

    pub flat_row : (n : ℕ) → ¬ (Spans (moved_points vs)) → (b : Below) → IsRight b → refuse (not (spans_space (changed_points b (rounded grid) fs))) (NoVolume n) ≡ Some (NoVolume n)
    flat_row n s b right = ap (λ t. refuse (not t) (NoVolume n)) (ap spans_space (goals_are b right) ∙ spans_no (rounded grid) V (subst (λ ws. ¬ (Spans (moved_points ws))) vs_are s))

    pub many : (count : ℕ) → HasFacets (moved_points vs) count → (b : Below) → IsRight b → length (changed_faces b (rounded grid) fs) ≡ count
    many count h b right = ap length (vertices_are b right) ∙ facet_count (rounded grid) V fs near some count (subst (λ ws. HasFacets (moved_points ws) count) vs_are h)

    module _ (rows : List FromFace) (solid : List Side) (edit : IsEdit (half_spaces fs) vs rows solid) where
      edit_is : IsEdit (half_spaces fs) (carried (rounded grid) V) rows solid
      edit_is = subst (λ ws. IsEdit (half_spaces fs) ws rows solid) vs_are edit

      pub comes : ComeFrom fs rows solid
      comes = come_from (rounded grid) V fs rows solid near edit_is

      pub faces_is : (body : List Face) → AreFacesOn fs rows solid body → (b : Below) → IsRight b → changed_faces b (rounded grid) fs ≡ body
      faces_is body on b right = vertices_are b right ∙ faces_are (rounded grid) V fs rows solid near edit_is body on

      pub few : (body : List Face) → AreFacesOn fs rows solid body → length body ≤ 128
      few body on = omega (arith, on.count, few_sides (rounded grid) V fs rows solid edit_is)

-- What comes of one brush. ------------------------------------------------------------------------------------------------------------------

module _ (m : Whole) (grid : ℤ) (n : ℕ) (fs : List Face) (is : fs ≡ faces_at m n) (is_grid : IsGrid grid) (valid : Valid (half_spaces fs)) where
  abbrev one_by : Below → List Face → Snapped
  one_by b gs = let count = length (changed_faces b (rounded grid) gs) in cond (nat_lt 128 count) (Many n count) (Few (record { id = n; body = changed_faces b (rounded grid) gs }))

  abbrev flat_by : Below → List Face → Option Refusal
  flat_by b gs = refuse (not (spans_space (changed_points b (rounded grid) gs))) (NoVolume n)

  not_more : (k : ℕ) → k ≤ 128 → nat_lt 128 k ≡ false
  not_more k le = by (nat_lt 128 k) refl
    where
      by : (t : Bool) → nat_lt 128 k ≡ t → t ≡ false
      by false e = refl
      by true e = absurd (omega (arith, le, (Decides-ltb 128 k).0 e))

  pub snapped_few : (rows : List FromFace) (solid : List Side) (r : places.IsSnapped (half_spaces fs) grid rows solid) (body : List Face) → AreFacesOn fs rows solid body →
      IsSnapped m grid n (Ok (Few (record { id = n; body = body })))
  snapped_few rows solid r body on b right =
      let e = faces_is fs grid is_grid valid r.vs r.rounded rows solid r.edit body on b right in
      let w = few fs grid is_grid valid r.vs r.rounded rows solid r.edit body on in (
        ap (one_by b) (sym is) ∙ (λ i. cond (nat_lt 128 (length (e i))) (Many n (length (e i))) (Few (record { id = n; body = e i })))
            ∙ (λ i. cond (not_more (length body) w i) (Many n (length body)) (Few (record { id = n; body = body }))),
        ap (flat_by b) (sym is) ∙ spans_row fs grid is_grid valid r.vs r.rounded n r.edit.spans b right,
      )

  pub snapped_flat : HaveRounded (half_spaces fs) grid (λ vs. IsNoEditFor (moved_points vs) Flat) → (b : Below) → IsRight b → flat m grid b n ≡ Some (NoVolume n)
  snapped_flat h b right = ap (flat_by b) (sym is) ∙ flat_row fs grid is_grid valid h.vs h.rounded n h.cause b right

  pub snapped_many : (count : ℕ) → HaveRounded (half_spaces fs) grid (λ vs. IsNoEditFor (moved_points vs) (ManyFaces count)) → IsSnapped m grid n (Ok (Many n count))
  snapped_many count h b right =
      let e = many fs grid is_grid valid h.vs h.rounded count h.cause.1 b right in (
        ap (one_by b) (sym is) ∙ (λ i. cond (nat_lt 128 (e i)) (Many n (e i)) (Few (record { id = n; body = changed_faces b (rounded grid) fs })))
            ∙ (λ i. cond ((Decides-ltb 128 count).1 h.cause.2 i) (Many n count) (Few (record { id = n; body = changed_faces b (rounded grid) fs }))),
        ap (flat_by b) (sym is) ∙ spans_row fs grid is_grid valid h.vs h.rounded n h.cause.0 b right,
      )
