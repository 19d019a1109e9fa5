-- The rows of `merge`, and the brush that it makes.
use Rattle.std.proofs.Common.{◌≡◌, ℕ, suc, ◌<◌, ◌≤◌, List, [], ◌∷◌, length, map, get_or, Bool, true, false, not, IsTrue, Option, None, Some, Result, Ok, Err, refl, ap, sym, subst, ◌∙◌, arith, true≢false, unsigned_abs, pos}
use Rattle.std.specs.Prelude.{nat_lt, IsErrAnd}
use Rattle.std.specs.List.{list_any, list_all}
use Rattle.std.proofs.lemmas.Bool.Decides.{Decides-int_eq}
use Rattle.std.proofs.lemmas.Int.{ints}
use Rattle.std.proofs.lemmas.List.{length-map}
use Rattle.algebra.specs.Members.{◌∈◌, here, Every}
use Rattle.algebra.specs.Space.{Vector, Homogeneous, whole_point}
use Rattle.algebra.specs.World.{InCube, world}
use Rattle.exact_geom.specs.declared.point.Point.{Point}
use Rattle.exact_geom.specs.Planes.{ThreePoints, vector, is_in_range}
use Rattle.solid_brush.specs.declared.side.Side.{Side}
use Rattle.hull_laws.specs.Facets.{Spans}
use Rattle.hull_merge.specs.Hulls.{distinct}
use Rattle.hull_merge.proofs.Held.{in_firsts}
use Rattle.map_nodes.specs.Seen.{sides_of, sides_from}
use Rattle.map_model.specs.Faces.{Face}
use Rattle.map_model.specs.Shape.{half_spaces}
use Rattle.map_model.specs.Tree.{Whole, brush, is_brush, faces_at}
use Rattle.map_model.specs.Below.{Below, IsRight}
use Rattle.map_model.specs.Brushes.{distinct_points, spans_space, facets, is_outside_world, is_whole, as_point, vertices_of}
use Rattle.map_model.specs.Commands.{Settings, Merge}
use Rattle.map_model.specs.Replies.{Refusal, FractionalVertex, TooManyPoints, NoVolume, TooManyFaces, OutOfWorld}
use Rattle.map_model.specs.Rows.{refuse, first, first_of, fractional_vertex, too_many_points, too_many_faces, too_many, all_faces, fields_for}
use Rattle.map_model.proofs.Members.{in_map, map_in, flat_in}
use Rattle.map_laws.proofs.Skeleton.{kind_is}
use Rattle.map_laws.proofs.Refused.{refuse_none, each_none}
use Rattle.map_laws.proofs.Tests.{not_false, all_true, some_passes}
use Rattle.map_laws.proofs.BrushRows.{brush_faces}
use Rattle.map_laws.proofs.Clipping.{in_range}
use Rattle.map_laws.proofs.VerticesSpan.{vertices_span}
use Rattle.tree_node.specs.Held.{IsMap}
use Rattle.tree_ops.specs.Passing.{passes}
use Rattle.tree_ops.specs.declared.fault.OpFault.{OpFault}
use Rattle.tree_ops.specs.declared.fault.OpFault.TheVariants.{No, Memory}
use Rattle.tree_ops.proofs.Outcomes.{err_is}
use Rattle.brush_plans.specs.NamedRows.{brush_rows}
use Rattle.brush_plans.proofs.RowLoops.{no_row, that_row}
use Rattle.cut_plans.proofs.ClipRows.{front_stops, front_passes, are_brushes}
use Rattle.cut_plans.proofs.Laws.{some_are_right}
use Rattle.cut_plans.proofs.Trimmed.{valid_bounded}
use Rattle.hull_plans.specs.Hulls.{sides_on, facets_of, hull_rows, IsHullAt}
use Rattle.hull_plans.specs.Merges.{AreInWorld, corners_at, fraction, AreCorners, IsCorners, merge_refusal, IsMerged}
use Rattle.facet_laws.proofs.Distinct.{spans_decides}
use Rattle.hull_plans.proofs.HullRows.{within_world}
use Rattle.hull_plans.proofs.HullOutcomes.{planes_are}
use Rattle.hull_plans.proofs.FirstFaces.{fields_plane}

-- Points of the world are in range, and none is outside.
range_of : (p : Point) → InCube world (whole_point (vector p)) → is_in_range p ≡ true
unfolding whole_point
range_of p c =
    let x : unsigned_abs p.x ≤ 4352 = let l = c.left in let r = c.right in omega (arith, ints) in
    let y : unsigned_abs p.y ≤ 4352 = let l = c.near in let r = c.far in omega (arith, ints) in
    let z : unsigned_abs p.z ≤ 4352 = let l = c.bottom in let r = c.top in omega (arith, ints) in
    in_range p (record { x = x; y = y; z = z })

pub ranges_of : (points : List Point) → AreInWorld points → Every (λ p. IsTrue (is_in_range p)) points
ranges_of points within p i = range_of p (within p i)

stays : (points : List Point) → AreInWorld points → list_any is_outside_world points ≡ false
stays points within = by (list_any is_outside_world points) refl
  where
    by : (t : Bool) → list_any is_outside_world points ≡ t → t ≡ false
    by false e = refl
    by true e = let p = some_passes is_outside_world points e in absurd (true≢false (sym p.2 ∙ within_world p.0 (within p.0 p.1)))

first_in : (ns : List ℕ) → 0 < length ns → first_of ns ∈ ns
first_in [] lt = absurd (omega (arith, lt))
first_in (n ∷ ns) lt = here

pub first_is : (ns : List ℕ) (d : ℕ) → 0 < length ns → get_or ns 0 d ≡ first_of ns
first_is [] d lt = absurd (omega (arith, lt))
first_is (n ∷ ns) d lt = refl

-- Rows that don't hold are left out.
without : (a c : Option Refusal) → first (a ∷ None ∷ c ∷ None ∷ []) ≡ first (a ∷ c ∷ [])
without (Some x) c = refl
without None (Some y) = refl
without None None = refl

-- Faces with given fields have the sides of their planes.
fields_sides : (s : Settings) (m : Whole) (given : List Face) (k : ℕ) (planes : List ThreePoints) → sides_from k (map (fields_for s m given) planes) ≡ sides_on k planes
fields_sides s m given k [] = refl
fields_sides s m given k (t ∷ planes) = λ i. record { plane = fields_plane s m given t i; tag = k } ∷ fields_sides s m given (suc k) planes i

module _ (s : Settings) (m : Whole) (ns : List ℕ) where
  abbrev pub later : Below → List (Option Refusal)
  later b = fractional_vertex b m (Merge ns) ∷ too_many_points b m (Merge ns) ∷ too_many_faces b s m (Merge ns) ∷ []

  pub stops_named : (x : Refusal) (r : Result (List Face) OpFault) → IsErrAnd r (λ e. e ≡ No x) → Err x ≡ passes (first (brush_rows m ns)) → IsMerged s m ns r
  stops_named x r is e = subst (IsMerged s m ns) (sym (err_is r (No x) is)) (λ b right. front_stops (brush_rows m ns) (later b) x (that_row (first (brush_rows m ns)) x e))

  module _ (named : Ok tt ≡ passes (first (brush_rows m ns))) where
    past_named : (b : Below) → merge_refusal s m ns b ≡ first (later b)
    past_named b = front_passes (brush_rows m ns) (later b) (no_row (first (brush_rows m ns)) named)

    pub brushes : (n : ℕ) → n ∈ ns → IsTrue (is_brush m n)
    brushes n i = are_brushes m ns (no_row (first (brush_rows m ns)) named) n i

    pub stops_fraction : (why : OpFault) (r : Result (List Face) OpFault) → IsErrAnd r (λ e. e ≡ why) → IsCorners m ns (Err why) → IsMerged s m ns r
    stops_fraction (No x) r is says = subst (IsMerged s m ns) (sym (err_is r (No x) is))
        (λ b right. past_named b ∙ ap (λ o. first (o ∷ too_many_points b m (Merge ns) ∷ too_many_faces b s m (Merge ns) ∷ [])) (says b right))
    stops_fraction Memory r is says = subst (IsMerged s m ns) (sym (err_is r Memory is)) tt

    module _ (map_is : IsMap m) (some : 0 < length ns) (points : List Point) (corners : AreCorners m ns points) where
      -- The vertices of the first brush span space.
      spans : Spans (distinct points)
      spans =
          let b = some_are_right.tests in
          let right = some_are_right.right in
          let n = first_of ns in
          let i = first_in ns some in
          let F = half_spaces (faces_at m n) in
          let vs = vertices_of b (faces_at m n) in
          let valid = (brush_faces m n map_is.shape (kind_is m brush n (brushes n i))).valid in
          let whole = λ (v : Homogeneous) (j : v ∈ vs). (Decides-int_eq v.weight (pos 1)).0 (all_true is_whole vs (not_false (list_all is_whole vs)
          (refuse_none (not (list_all is_whole vs)) (FractionalVertex n) (each_none ns (λ n. fraction m n b) (corners.whole b right) n i))) v j) in
          let wide = vertices_span F vs valid.volume.at (valid_bounded F valid) (right.vertices F valid) valid.volume.inside whole in
          let among = λ (x : Vector) (j : x ∈ map (λ v. v.vector) vs).
          let v = in_map (λ (v : Homogeneous). v.vector) vs x j in
          let p = as_point v.0 in
          in_firsts (map vector points) x (subst (λ y. y ∈ map vector points) (sym v.2)
          (map_in vector points p (subst (λ l. p ∈ l) (corners.are b right) (flat_in (corners_at b m) ns n p i (map_in as_point vs v.0 v.1))))) in
          record {
            a = wide.a;
            b = wide.b;
            c = wide.c;
            d = wide.d;
            a_in = among wide.a wide.a_in;
            b_in = among wide.b wide.b_in;
            c_in = among wide.c wide.c_in;
            d_in = among wide.d wide.d_in;
            volume = wide.volume;
          }

      abbrev ps : List Point
      ps = distinct_points points

      abbrev fields : ThreePoints → Face
      fields = fields_for s m (all_faces m ns)

      abbrev points_row : Option Refusal
      points_row = refuse (nat_lt 512 (length ps)) (TooManyPoints (length ps))

      abbrev faces_row : ℕ → Option Refusal
      faces_row k = refuse (nat_lt 128 k) (TooManyFaces (first_of ns) k)

      hull_rows_are : first (hull_rows (first_of ns) points) ≡ first (points_row ∷ faces_row (length (facets ps)) ∷ [])
      hull_rows_are =
          (λ i. first (points_row ∷ refuse (not ((spans_decides points).1 spans i)) (NoVolume (first_of ns)) ∷ faces_row (length (facets ps)) ∷ refuse (stays points corners.within i) (OutOfWorld (first_of ns)) ∷ []))
          ∙ without points_row (faces_row (length (facets ps)))

      rows_are : (b : Below) → IsRight b → merge_refusal s m ns b ≡ first (hull_rows (first_of ns) points)
      rows_are b right =
          past_named b
          ∙ ap (λ o. first (o ∷ too_many_points b m (Merge ns) ∷ too_many_faces b s m (Merge ns) ∷ [])) (corners.whole b right)
          ∙ ap (λ l. first (refuse (nat_lt 512 (length (distinct_points l))) (TooManyPoints (length (distinct_points l))) ∷ too_many (first_of ns) (map fields (facets (distinct_points l))) ∷ [])) (corners.are b right)
          ∙ ap (λ k. first (points_row ∷ faces_row k ∷ [])) (length-map (facets ps) fields)
          ∙ sym hull_rows_are

      pub stops_hull : (why : OpFault) (r : Result (List Face) OpFault) → IsErrAnd r (λ e. e ≡ why) → IsHullAt (first_of ns) points (Err why) → IsMerged s m ns r
      stops_hull (No x) r is e = subst (IsMerged s m ns) (sym (err_is r (No x) is)) (λ b right. rows_are b right ∙ e)
      stops_hull Memory r is e = subst (IsMerged s m ns) (sym (err_is r Memory is)) tt

      module _ (solid : List Side) (planes : List ThreePoints) (faces : List Face) (hull : IsHullAt (first_of ns) points (Ok solid)) (planes_is : planes ≡ map (λ (side : Side). side.plane) solid)
          (faces_is : faces ≡ map (fields_for s m (all_faces m ns)) planes) where
        are_fields : faces ≡ map (fields_for s m (all_faces m ns)) (facets_of points)
        are_fields = faces_is ∙ ap (map (fields_for s m (all_faces m ns))) (planes_is ∙ ap (map (λ (side : Side). side.plane)) hull.0 ∙ planes_are 0 (facets_of points))

        pub fits : solid ≡ sides_of faces
        fits = hull.0 ∙ sym (fields_sides s m (all_faces m ns) 0 (facets_of points)) ∙ ap sides_of (sym are_fields)

        pub merges : (body : List Face) → body ≡ faces → IsMerged s m ns (Ok body)
        merges body e = record {
          passes = λ b right. rows_are b right ∙ hull.1;
          made = λ b right. ap (λ l. map (fields_for s m (all_faces m ns)) (facets (distinct_points l))) (corners.are b right) ∙ sym (e ∙ are_fields);
        }
