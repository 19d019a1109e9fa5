-- Facets with the fields of faces that were there: vertex, snap.
use Rattle.std.proofs.Common.{◌≡◌, ℕ, ◌≤◌, List, [], ◌∷◌, map, flat_map, length, Bool, true, false, cond, refl, ap, sym, subst, arith, None, ℤ}
use Rattle.std.specs.Prelude.{nat_lt}
use Rattle.std.specs.List.{list_any}
use Rattle.std.proofs.lemmas.List.{length-map}
use Rattle.algebra.specs.Members.{◌∈◌, here, there, Every}
use Rattle.algebra.specs.Space.{Homogeneous}
use Rattle.exact_geom.specs.declared.point.Point.{Point}
use Rattle.exact_geom.specs.Planes.{ThreePoints, half_space, IsPlane}
use Rattle.trim_laws.specs.Valid.{Valid}
use Rattle.uv_lock.specs.declared.texture.Format.{Format}
use Rattle.map_model.specs.Faces.{Face}
use Rattle.map_model.specs.Tree.{Whole, faces_at, format_of, with_faces}
use Rattle.map_model.specs.Edits.{renew}
use Rattle.map_model.specs.Shape.{Shape, FaceOk, FacesOk, half_spaces}
use Rattle.map_model.specs.Below.{Below, IsRight}
use Rattle.map_model.specs.Brushes.{spans_space, facets, best, shared, with_fields_of, vertices_of, changed_points, changed_faces, is_same_point, picked, rounded, is_outside_world}
use Rattle.map_model.specs.Commands.{IsGood, Settings, Vertex, Snap, vector_in, points_in}
use Rattle.map_model.specs.Replies.{NoVolume, OutOfWorld}
use Rattle.map_model.specs.Rows.{rows, first, refuse, is_flat_change, too_many}
use Rattle.map_model.specs.Own.{own}
use Rattle.map_model.proofs.Members.{in_map}
use Rattle.map_laws.specs.Unlinked.{Unlinked}
use Rattle.map_laws.proofs.Lists.{tally-no_member}
use Rattle.map_laws.proofs.InTurn.{by_member}
use Rattle.map_laws.proofs.Refused.{refuse_none, each_none, nodes_fit}
use Rattle.map_laws.proofs.RowsPass.{rows_pass}
use Rattle.map_laws.proofs.TreeCommands.{renewed}
use Rattle.map_laws.proofs.Retexturing.{keeps_faces, faces_put}
use Rattle.map_laws.proofs.FairMaps.{fair_of}
use Rattle.map_laws.proofs.Remaking.{in_turn, remade_outcome}
use Rattle.map_laws.proofs.RemakingSteps.{faces_step}
use Rattle.map_laws.proofs.FacetFaces.{InWorld, firsts_in, none_outside, facet_plane, hull_valid}
use Rattle.map_laws.proofs.RoundedPoints.{rounded_world}
use Rattle.map_laws.proofs.Tests.{not_false}
use Rattle.map_laws.proofs.BrushRows.{named_brushes, brush_faces, few}
use Rattle.map_laws.proofs.Unlinking.{Outcome}

-- Faces on planes: fields give each plane a face.
pub record Fields (format : Format) (fields : ThreePoints → Face) : Type 0 where
  pub plane : (t : ThreePoints) → (fields t).plane ≡ t
  pub ok : (t : ThreePoints) → IsPlane t → FaceOk format (fields t)

fields_each : (format : Format) (fields : ThreePoints → Face) → Fields format fields → (ts : List ThreePoints) → ((t : ThreePoints) → t ∈ ts → IsPlane t) → Every (FaceOk format) (map fields ts)
fields_each format fields h [] planes f i = elim i [ ]
fields_each format fields h (t ∷ ts) planes f here = h.ok t (planes t here)
fields_each format fields h (t ∷ ts) planes f (there i) = fields_each format fields h ts (λ u j. planes u (there j)) f i

fields_halves : (format : Format) (fields : ThreePoints → Face) → Fields format fields → (ts : List ThreePoints) → half_spaces (map fields ts) ≡ map half_space ts
fields_halves format fields h [] = refl
fields_halves format fields h (t ∷ ts) = (λ i. half_space (h.plane t i) ∷ fields_halves format fields h ts i)

-- The facets of points that span space and lie in the world, with such fields, are a brush.
pub facets_ok : (format : Format) (fields : ThreePoints → Face) → Fields format fields → (points : List Point) → ((p : Point) → p ∈ points → InWorld p) → spans_space points ≡ true →
    length (map fields (facets points)) ≤ 128 → FacesOk format (map fields (facets points))
facets_ok format fields h points near wide few = record {
  each = fields_each format fields h (facets points) (facet_plane points near wide);
  valid = subst Valid (sym (fields_halves format fields h (facets points))) (hull_valid points near wide (subst (λ n. n ≤ 128) (length-map (facets points) fields) few));
}

-- The fields of the faces of a brush. ---------------------------------------------------------------------------------------------------

best_in : {A : Type 0} (score : A → ℕ) (x : A) (xs : List A) → best score x xs ∈ (x ∷ xs)
best_in score x [] = here
best_in {A} score x (y ∷ ys) = by (nat_lt (score x) (score y)) (best_in score (cond (nat_lt (score x) (score y)) y x) ys)
  where
    one_more : (z : A) → z ∈ (x ∷ ys) → z ∈ (x ∷ y ∷ ys)
    one_more z here = here
    one_more z (there i) = there (there i)

    by : (t : Bool) → best score (cond t y x) ys ∈ (cond t y x ∷ ys) → best score (cond t y x) ys ∈ (x ∷ y ∷ ys)
    by true i = there i
    by false i = one_more (best score x ys) i

abbrev fields_of : (Homogeneous → Point) → List Homogeneous → Face → List Face → ThreePoints → Face
fields_of change vs f fs t = record (best (shared change vs t) f fs) { plane = t }

own_fields : (format : Format) (change : Homogeneous → Point) (vs : List Homogeneous) (f : Face) (fs : List Face) → Every (FaceOk format) (f ∷ fs) → Fields format (fields_of change vs f fs)
own_fields format change vs f fs each = record {
  plane = λ t. refl;
  ok = λ t is. let h = each (best (shared change vs t) f fs) (best_in (shared change vs t) f fs) in record { form = h.form; plane = is; material = h.material; numbers = h.numbers };
}

one_each : (change : Homogeneous → Point) (vs : List Homogeneous) (f : Face) (fs : List Face) (ts : List ThreePoints) → flat_map (with_fields_of change vs (f ∷ fs)) ts ≡ map (fields_of change vs f fs) ts
one_each change vs f fs [] = refl
one_each change vs f fs (t ∷ ts) = ap (λ l. fields_of change vs f fs t ∷ l) (one_each change vs f fs ts)

-- A brush whose vertices are changed.
changed_ok : (b : Below) (format : Format) (change : Homogeneous → Point) (fs : List Face) → FacesOk format fs → ((p : Point) → p ∈ changed_points b change fs → InWorld p) → spans_space (changed_points b change fs) ≡ true →
    length (changed_faces b change fs) ≤ 128 → FacesOk format (changed_faces b change fs)
changed_ok b format change [] ok near wide few = absurd (omega (arith, ok.valid.least))
changed_ok b format change (f ∷ fs) ok near wide few =
    let vs = vertices_of b (f ∷ fs) in
    let is = one_each change vs f fs (facets (changed_points b change (f ∷ fs))) in
    subst (FacesOk format) (sym is) (facets_ok format (fields_of change vs f fs) (own_fields format change vs f fs ok.each) (changed_points b change (f ∷ fs)) near wide (subst (λ l. length l ≤ 128) is few))

-- The commands. -------------------------------------------------------------------------------------------------------------------------

pub moves_vertices : (b : Below) (s : Settings) (m : Whole) (n : ℕ) (shift : List ℤ) (picks : List (List ℤ)) → Shape m → Unlinked m → first (rows b s m (Vertex n shift picks)) ≡ None →
    Outcome m (Vertex n shift picks) (own b s m (Vertex n shift picks))
moves_vertices b s m n shift picks shape u e =
    let c = Vertex n shift picks in
    let f = format_of m in
    let r = rows_pass b s m c e in
    let change = picked (vector_in shift) (points_in picks) in
    let fs = faces_at m n in
    let is = named_brushes b s m c (λ q. refl) e n here in
    let near = none_outside (changed_points b change fs) (refuse_none (list_any is_outside_world (changed_points b change fs)) (OutOfWorld n) r.world) in
    let wide = not_false (spans_space (changed_points b change fs)) (refuse_none (is_flat_change b m c n) (NoVolume n) r.volume) in
    let ok = changed_ok b f change fs (brush_faces m n shape is) near wide (few n (changed_faces b change fs) r.few_faces) in
    renewed m c n (with_faces (changed_faces b change fs)) (keeps_faces (changed_faces b change fs)) shape u (λ x is_x. faces_put f (changed_faces b change fs) x (shape.each_node n x is_x) ok)

pub snaps : (b : Below) (s : Settings) (m : Whole) (grid : ℤ) (ns : List ℕ) → IsRight b → IsGood (Snap grid ns) → Shape m → Unlinked m → first (rows b s m (Snap grid ns)) ≡ None → Outcome m (Snap grid ns) (own b s m (Snap grid ns))
snaps b s m grid ns right good shape u e =
    let c = Snap grid ns in
    let f = format_of m in
    let r = rows_pass b s m c e in
    let fit = nodes_fit b s m c e in
    let brushes = named_brushes b s m c (λ q. refl) e in
    let change = rounded grid in
    let ok = λ (n : ℕ) (i : n ∈ ns).
    let fs = faces_at m n in
    let faces = brush_faces m n shape (brushes n i) in
    let vertices = right.vertices (half_spaces fs) faces.valid in
    let near = λ (p : Point) (j : p ∈ changed_points b change fs).
    let v = in_map change (vertices_of b fs) p (firsts_in is_same_point (map change (vertices_of b fs)) p j) in
    let k = (vertices.each v.0 v.1).0 in
    subst InWorld (sym v.2) (rounded_world grid v.0 good.ranges.0 k.inside.weight (faces.valid.within v.0 k.inside)) in
    let wide = not_false (spans_space (changed_points b change fs)) (refuse_none (is_flat_change b m c n) (NoVolume n) (each_none ns (λ n. refuse (is_flat_change b m c n) (NoVolume n)) r.volume n i)) in
    changed_ok b f change fs faces near wide (few n (changed_faces b change fs) (each_none ns (λ n. too_many n (changed_faces b (rounded grid) (faces_at m n))) r.few_faces n i)) in
    remade_outcome m c (own b s m c) shape u
    (in_turn f (λ n. renew n (with_faces (changed_faces b (rounded grid) (faces_at m n)))) (λ fs. Unit {0}) (λ n. FacesOk f (changed_faces b (rounded grid) (faces_at m n)))
    (λ k n fair ready so. faces_step f n k (changed_faces b (rounded grid) (faces_at m n)) fair so) ns m (fair_of m shape u) (λ n i. record { is = brushes n i; faces = tt }) ok
    (λ x. by_member x ns (λ i. fit.once x i) (λ none. omega (arith, tally-no_member x ns none))))
    brushes
