-- The faces of changed vertices, from the facets of the points to which they go.
use Rattle.std.proofs.Common.{◌≡◌, ℕ, zero, suc, ◌+◌, ◌<◌, ◌≤◌, List, [], ◌∷◌, ◌++◌, length, map, flat_map, get_or, fold, cond, Bool, true, false, ◌&&◌, IsTrue, refl, ap, ap₂, sym, ◌∙◌, subst, arith, pos, ◌≤ℤ◌, ◌<ℤ◌}
use Rattle.std.specs.Prelude.{count_by}
use Rattle.std.specs.Ordering.{int_eq}
use Rattle.std.proofs.Math.ListN.{get_or-map}
use Rattle.std.proofs.lemmas.List.{length-map, same_lists}
use Rattle.std.proofs.lemmas.List as lists
use Rattle.algebra.specs.Members.{◌∈◌, here, there}
use Rattle.algebra.specs.Space.{Vector, Homogeneous, HalfSpace, side, whole_point}
use Rattle.exact_geom.specs.declared.point.Point.{Point}
use Rattle.exact_geom.specs.Planes.{ThreePoints, vector, half_space, is_in_range}
use Rattle.hull_laws.specs.Facets.{Triple, Facets, Spans, firsts, origin, plane_of}
use Rattle.hull_laws.specs.Moved.{Carried, moved_points, carried_onto, nowhere, OldFace, same_point}
use Rattle.hull_merge.specs.Hulls.{zero_point}
use Rattle.solid_brush.specs.declared.side.Side.{Side}
use Rattle.map_nodes.specs.Seen.{sides_from, sides_of}
use Rattle.map_model.specs.Faces.{Face}
use Rattle.map_model.specs.Shape.{half_spaces}
use Rattle.map_model.specs.Brushes.{facets, best, shared, with_fields_of, distinct_points}
use Rattle.vertex_edit.specs.declared.shape.FromFace.{FromFace}
use Rattle.vertex_edit.specs.Edits.{IsEdit, corners_of}
use Rattle.cut_plans.specs.Told.{bare}
use Rattle.vertex_plans.specs.Remade.{ComeFrom, AreFacesOn}
use Rattle.vertex_plans.proofs.Best.{IsFirstBest, best_is}
use Rattle.facet_laws.proofs.Distinct.{vectors_are, same_vector}
use Rattle.facet_laws.specs.Places.{points_at}
use Rattle.facet_laws.proofs.Facets.{plane_at, facets_are}

-- Each vertex with the point to which it goes.
abbrev pub carried : (Homogeneous → Point) → List Homogeneous → List Carried
carried change V = map (λ v. record { old = v; new = vector (change v) }) V

news : (change : Homogeneous → Point) (V : List Homogeneous) → map (λ v. v.new) (carried change V) ≡ map vector (map change V)
news change [] = refl
news change (v ∷ V) = ap (λ l. vector (change v) ∷ l) (news change V)

pub firsts_are : (change : Homogeneous → Point) (V : List Homogeneous) → moved_points (carried change V) ≡ firsts same_point (map vector (map change V))
firsts_are change V = ap (firsts same_point) (news change V)

pub moved_are : (change : Homogeneous → Point) (V : List Homogeneous) → moved_points (carried change V) ≡ map vector (distinct_points (map change V))
moved_are change V = firsts_are change V ∙ sym (vectors_are (map change V))

-- How many vertices of a face go onto a plane. ------------------------------------------------------------------------------------------

count_map : {A B : Type 0} (f : A → B) (p : B → Bool) (k : ℕ) (xs : List A) → fold (λ a y. a + cond (p y) 1 0) k (map f xs) ≡ fold (λ a x. a + cond (p (f x)) 1 0) k xs
count_map f p k [] = refl
count_map f p k (x ∷ xs) = count_map f p (k + cond (p (f x)) 1 0) xs

module _ (change : Homogeneous → Point) (V : List Homogeneous) where
  shared_is : (t : ThreePoints) (f : Face) → carried_onto (carried change V) (half_space t) (half_space f.plane) ≡ shared change V t f
  shared_is t f = count_map (λ (v : Homogeneous). record { old = v; new = vector (change v) })
      (λ (v : Carried). int_eq (side (half_space f.plane) v.old) (pos 0) && int_eq (side (half_space t) (whole_point v.new)) (pos 0)) 0 V

  module _ (fs : List Face) where
    at : (t : ThreePoints) (j : ℕ) → j < length fs → carried_onto (carried change V) (half_space t) (get_or (half_spaces fs) j nowhere) ≡ shared change V t (get_or fs j bare)
    at t j l = ap (carried_onto (carried change V) (half_space t)) (lists.get_or-map (λ (f : Face). half_space f.plane) fs j bare nowhere l) ∙ shared_is t (get_or fs j bare)

    count : length (half_spaces fs) ≡ length fs
    count = length-map fs (λ f. half_space f.plane)

    old_is_best : (t : ThreePoints) (i : ℕ) → OldFace (half_spaces fs) (carried change V) (half_space t) i → IsFirstBest (shared change V t) bare fs i
    old_is_best t i o =
        let w : i < length fs = omega (arith, o.i_in, count) in record {
          within = w;
          most = λ j l. subst (λ n. n ≤ shared change V t (get_or fs i bare)) (at t j l) (subst (λ n. carried_onto (carried change V) (half_space t) (get_or (half_spaces fs) j nowhere) ≤ n) (at t i w) (o.most j (omega (arith, l, count))));
          first = λ j l. subst (λ n. n < shared change V t (get_or fs i bare)) (at t j (omega (arith, l, w))) (subst (λ n. carried_onto (carried change V) (half_space t) (get_or (half_spaces fs) j nowhere) < n) (at t i w) (o.first j l));
        }

  fields_is : (fs : List Face) (t : ThreePoints) (i : ℕ) → OldFace (half_spaces fs) (carried change V) (half_space t) i → with_fields_of change V fs t ≡ record (get_or fs i bare) { plane = t } ∷ []
  fields_is [] t i o = absurd (omega (arith, o.i_in))
  fields_is (f ∷ fs) t i o = ap (λ (g : Face). record g { plane = t } ∷ []) (best_is (shared change V t) bare f fs i (old_is_best (f ∷ fs) t i o))

  -- The face has the fields of the old one that gives them.
  abbrev IsTold : List Face → ThreePoints → Face → Type 0
  IsTold fs t g = (i : ℕ) × OldFace (half_spaces fs) (carried change V) (half_space t) i × (g ≡ record (get_or fs i bare) { plane = t })

  all_told : (fs : List Face) (ts : List ThreePoints) (gs : List Face) → length gs ≡ length ts → ((k : ℕ) (t : ThreePoints) (g : Face) → k < length ts → IsTold fs (get_or ts k t) (get_or gs k g)) →
      flat_map (with_fields_of change V fs) ts ≡ gs
  all_told fs [] [] e h = refl
  all_told fs [] (g ∷ gs) e h = absurd (omega (arith, e))
  all_told fs (t ∷ ts) [] e h = absurd (omega (arith, e))
  all_told fs (t ∷ ts) (g ∷ gs) e h =
      let o = h 0 t g (omega arith) in
      ap₂ (λ l r. l ++ r) (fields_is fs t o.0 o.1 ∙ ap (λ x. x ∷ []) (sym o.2)) (all_told fs ts gs (omega (arith, e)) (λ k t g l. h (suc k) t g (omega (arith, l))))

  -- The facets. --------------------------------------------------------------------------------------------------------------------------

  abbrev pub goals : List Point
  goals = distinct_points (map change V)

  module _ (fs : List Face) (rows : List FromFace) (solid : List Side) (near : (p : Point) → p ∈ goals → IsTrue (is_in_range p)) (edit : IsEdit (half_spaces fs) (carried change V) rows solid) where
    is_facets : Facets (map vector goals) edit.triples
    is_facets = subst (λ ps. Facets ps edit.triples) (moved_are change V) edit.are_facets

    pub planes_are : map (points_at goals) edit.triples ≡ facets goals
    planes_are = facets_are goals near edit.triples is_facets

    -- The plane of a side.
    side_plane : (k : ℕ) (t : Triple) (row : FromFace) (s : Side) → k < length edit.triples → (get_or solid k s).plane ≡ points_at goals (get_or edit.triples k t)
    side_plane k t row s l =
        let r = edit.each k t row s l in
        let u = get_or edit.triples k t in
        let c = ap (map vector) (sym r.points) ∙ r.corners ∙ ap (λ ps. corners_of ps u) (moved_are change V) in
        let p = get_or solid k s in
        let x = same_vector p.plane.p0 (get_or goals u.a zero_point) (ap (λ l. get_or l 0 origin) c ∙ get_or-map vector goals u.a zero_point) in
        let y = same_vector p.plane.p1 (get_or goals u.b zero_point) (ap (λ l. get_or l 1 origin) c ∙ get_or-map vector goals u.b zero_point) in
        let z = same_vector p.plane.p2 (get_or goals u.c zero_point) (ap (λ l. get_or l 2 origin) c ∙ get_or-map vector goals u.c zero_point) in
        λ i. record { p0 = x i; p1 = y i; p2 = z i }

    -- The old face of a side.
    side_old : (k : ℕ) (t : Triple) (row : FromFace) (s : Side) → k < length edit.triples → OldFace (half_spaces fs) (carried change V) (half_space (points_at goals (get_or edit.triples k t))) (get_or rows k row).old
    side_old k t row s l =
        let r = edit.each k t row s l in
        let u = get_or edit.triples k t in
        subst (λ g. OldFace (half_spaces fs) (carried change V) g (get_or rows k row).old) (ap (λ ps. plane_of ps u) (moved_are change V) ∙ sym (plane_at goals u)) r.old

    old_in : (k : ℕ) (row : FromFace) → k < length solid → (get_or rows k row).old < length fs
    old_in k row l =
        let d : Triple = record { a = 0; b = 0; c = 0 } in
        let s : Side = record { plane = points_at [] d; tag = 0 } in
        omega (arith, (side_old k d row s (omega (arith, l, edit.side_count))).i_in, length-map fs (λ (f : Face). half_space f.plane))

    pub come_from : ComeFrom fs rows solid
    come_from = record {
      count = edit.facet_count ∙ sym edit.side_count;
      each = λ k row l. old_in k row l;
      tag = λ k s l. (edit.each k (record { a = 0; b = 0; c = 0 }) (record { points = []; old = 0 }) s (omega (arith, l, edit.side_count))).tag;
    }

    module _ (gs : List Face) (are : AreFacesOn fs rows solid gs) where
      told_at : (k : ℕ) (t : Triple) (row : FromFace) (s : Side) (g : Face) → k < length edit.triples → IsTold fs (points_at goals (get_or edit.triples k t)) (get_or gs k g)
      told_at k t row s g l = (
        (get_or rows k row).old,
        side_old k t row s l,
        are.each k row s g (omega (arith, l, edit.side_count)) ∙ ap (λ (p : ThreePoints). record (get_or fs (get_or rows k row).old bare) { plane = p }) (side_plane k t row s l),
      )

      pub faces_are : flat_map (with_fields_of change V fs) (facets goals) ≡ gs
      faces_are =
          ap (flat_map (with_fields_of change V fs)) (sym planes_are)
          ∙ all_told fs (map (points_at goals) edit.triples) gs (are.count ∙ edit.side_count ∙ sym (length-map edit.triples (points_at goals)))
          (λ k t g l.
          let m : k < length edit.triples = omega (arith, l, length-map edit.triples (points_at goals)) in
          let d : Triple = record { a = 0; b = 0; c = 0 } in
          let row : FromFace = record { points = []; old = 0 } in
          let s : Side = record { plane = points_at [] d; tag = 0 } in
          subst (λ (u : ThreePoints). IsTold fs u (get_or gs k g)) (sym (lists.get_or-map (points_at goals) edit.triples k d t m)) (told_at k d row s g m))

-- The sides of the faces. -----------------------------------------------------------------------------------------------------------------

side_at : (xs : List Face) (n k : ℕ) (s : Side) (g : Face) → k < length xs → get_or (sides_from n xs) k s ≡ record { plane = (get_or xs k g).plane; tag = n + k }
side_at [] n k s g l = absurd (omega (arith, l))
side_at (x ∷ xs) n zero s g l = ap (λ j. record { plane = x.plane; tag = j }) (let e : n ≡ n + 0 = omega arith in e)
side_at (x ∷ xs) n (suc k) s g l = side_at xs (suc n) k s g (omega (arith, l)) ∙ ap (λ j. record { plane = (get_or xs k g).plane; tag = j }) (let e : suc n + k ≡ n + suc k = omega arith in e)

side_count : (xs : List Face) (n : ℕ) → length (sides_from n xs) ≡ length xs
side_count [] n = refl
side_count (x ∷ xs) n = ap suc (side_count xs (suc n))

pub sides_are : (fs : List Face) (rows : List FromFace) (solid : List Side) (gs : List Face) → ComeFrom fs rows solid → AreFacesOn fs rows solid gs → solid ≡ sides_of gs
sides_are fs rows solid gs from are = same_lists solid (sides_of gs) (sym (side_count gs 0 ∙ are.count))
    (λ k s l.
    let row : FromFace = record { points = []; old = 0 } in
    let plane = ap (λ (g : Face). g.plane) (are.each k row s bare l) in
    (λ i. record { plane = sym plane i; tag = from.tag k s l i })
    ∙ ap (λ j. record { plane = (get_or gs k bare).plane; tag = j }) (let e : k ≡ 0 + k = omega arith in e)
    ∙ sym (side_at gs 0 k s bare (omega (arith, l, are.count))))
