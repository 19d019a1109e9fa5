-- Which row refuses the points of a hull, and the sides of its facets.
use Rattle.std.proofs.Common.{◌≡◌, ℕ, suc, ◌+◌, ◌<◌, ◌≤◌, List, [], ◌∷◌, map, length, get_or, Bool, true, false, not, ◌||◌, IsTrue, None, Some, refl, ap, sym, ◌∙◌, subst, arith, add-one, ℤ, pos, ◌<ℤ◌, unsigned_abs, true≢false}
use Rattle.std.specs.Prelude.{nat_lt}
use Rattle.std.specs.Bool.{Decides}
use Rattle.std.specs.List.{list_any}
use Rattle.std.proofs.lemmas.Bool.Decides.{nat_tests}
use Rattle.std.proofs.lemmas.Int.{ints}
use Rattle.std.proofs.lemmas.List.{length-map}
use Rattle.std.proofs.Math.ListN.{get_or-map}
use Rattle.algebra.specs.Members.{◌∈◌, here, there, Every}
use Rattle.algebra.specs.Space.{Vector, whole_point}
use Rattle.algebra.specs.World.{InCube, world}
use Rattle.exact_geom.specs.declared.point.Point.{Point}
use Rattle.exact_geom.specs.Planes.{ThreePoints, vector, is_in_range}
use Rattle.solid_brush.specs.declared.side.Side.{Side}
use Rattle.solid_brush.specs.Sides.{IsSolid, bounds}
use Rattle.hull_laws.specs.Facets.{Spans, Triple, FacetAt, Facets}
use Rattle.hull_merge.specs.Hulls.{distinct, AreFirstPlaces, HasFacets, Outside, IsHull, HasTheHeld, sides_from}
use Rattle.map_model.specs.Brushes.{is_same_point, distinct_points, spans_space, facets, is_outside_world}
use Rattle.map_model.specs.Replies.{TooManyPoints, NoVolume, TooManyFaces, OutOfWorld}
use Rattle.map_model.specs.Rows.{refuse, first}
use Rattle.map_model.proofs.Members.{in_map, map_in}
use Rattle.map_laws.proofs.FacetFaces.{firsts_in, none_outside}
use Rattle.map_laws.proofs.Tests.{some_passes}
use Rattle.hull_plans.specs.Hulls.{sides_on, facets_of, hull_rows, IsHullAt}
use Rattle.facet_laws.specs.Places.{points_at}
use Rattle.facet_laws.proofs.Facets.{facet_places, are_facets, facets_are}
use Rattle.facet_laws.proofs.Distinct.{same_vector, vectors_are, count_is, spans_decides}

few : (most n : ℕ) → n ≤ most → nat_lt most n ≡ false
few most n le = grind (arith, nat_tests)

many : (most n : ℕ) → most < n → nat_lt most n ≡ true
many most n lt = grind (arith, nat_tests)

unless_so : {P : Type 0} (t : Bool) → Decides t P → ¬ P → t ≡ false
unless_so true d n = absurd (n (d.0 refl))
unless_so false d n = refl

-- A point of the world.
pub within_world : (p : Point) → InCube world (whole_point (vector p)) → is_outside_world p ≡ false
unfolding whole_point
within_world p c =
    let x : unsigned_abs p.x ≤ 4096 = let l = c.left in let r = c.right in omega (arith, ints) in
    let y : unsigned_abs p.y ≤ 4096 = let l = c.near in let r = c.far in omega (arith, ints) in
    let z : unsigned_abs p.z ≤ 4096 = let l = c.bottom in let r = c.top in omega (arith, ints) in
    (λ i. few 4096 (unsigned_abs p.x) x i || (few 4096 (unsigned_abs p.y) y i || few 4096 (unsigned_abs p.z) z i))

some_weight : (v : Vector) → pos 0 <ℤ (whole_point v).weight
unfolding whole_point
some_weight v = omega (arith, ints)

module _ (n : ℕ) (points : List Point) (near : Every (λ p. IsTrue (is_in_range p)) points) where
  abbrev ps : List Point
  ps = distinct_points points

  near_each : (p : Point) → p ∈ ps → IsTrue (is_in_range p)
  near_each p i = near p (firsts_in is_same_point points p i)

  planes_are : (ts : List Triple) → Facets (distinct points) ts → map (points_at ps) ts ≡ facets ps
  planes_are ts F = facets_are ps near_each ts (subst (λ v. Facets v ts) (sym (vectors_are points)) F)

  faces_count : (ts : List Triple) → Facets (distinct points) ts → length (facets ps) ≡ length ts
  faces_count ts F = sym (ap length (planes_are ts F)) ∙ length-map ts (points_at ps)

  some_facets : HasFacets (distinct points) (length (facets ps))
  some_facets =
      let F = subst (λ v. Facets v (facet_places ps near_each)) (vectors_are points) (are_facets ps near_each) in
      record { triples = facet_places ps near_each; are_facets = F; count = sym (faces_count (facet_places ps near_each) F) }

  -- The rows, by their tests.
  rows_are : (a b c d : Bool) → nat_lt 512 (length ps) ≡ a → spans_space ps ≡ b → nat_lt 128 (length (facets ps)) ≡ c → list_any is_outside_world points ≡ d →
      first (hull_rows n points) ≡ first (refuse a (TooManyPoints (length ps)) ∷ refuse (not b) (NoVolume n) ∷ refuse c (TooManyFaces n (length (facets ps))) ∷ refuse d (OutOfWorld n) ∷ [])
  rows_are a b c d e f g h = λ i. first (refuse (e i) (TooManyPoints (length ps)) ∷ refuse (not (f i)) (NoVolume n) ∷ refuse (g i) (TooManyFaces n (length (facets ps))) ∷ refuse (h i) (OutOfWorld n) ∷ [])

  few_points : length (distinct points) ≤ 512 → nat_lt 512 (length ps) ≡ false
  few_points le = few 512 (length ps) (subst (λ k. k ≤ 512) (count_is points) le)

  wide : Spans (distinct points) → spans_space ps ≡ true
  wide s = (spans_decides points).1 s

  pub many_points : (k : ℕ) → length (distinct points) ≡ k → 512 < k → first (hull_rows n points) ≡ Some (TooManyPoints k)
  many_points k e lt =
      let is = sym (count_is points) ∙ e in
      rows_are true (spans_space ps) (nat_lt 128 (length (facets ps))) (list_any is_outside_world points) (ap (nat_lt 512) is ∙ many 512 k lt) refl refl refl ∙ ap (λ j. Some (TooManyPoints j)) is

  pub flat : length (distinct points) ≤ 512 → ¬ Spans (distinct points) → first (hull_rows n points) ≡ Some (NoVolume n)
  flat le none = rows_are false false (nat_lt 128 (length (facets ps))) (list_any is_outside_world points) (few_points le) (unless_so (spans_space ps) (spans_decides points) none) refl refl

  pub many_faces : (k : ℕ) → length (distinct points) ≤ 512 → Spans (distinct points) → HasFacets (distinct points) k → 128 < k → first (hull_rows n points) ≡ Some (TooManyFaces n k)
  many_faces k le s h lt =
      let is = faces_count h.triples h.are_facets ∙ h.count in
      rows_are false true true (list_any is_outside_world points) (few_points le) (wide s) (ap (nat_lt 128) is ∙ many 128 k lt) refl ∙ ap (λ j. Some (TooManyFaces n j)) is

  leaves : Outside (distinct points) → list_any is_outside_world points ≡ true
  leaves o = by (list_any is_outside_world points) refl
    where
      by : (t : Bool) → list_any is_outside_world points ≡ t → t ≡ true
      by true e = refl
      by false e =
          let p = in_map vector ps o.point (subst (λ v. o.point ∈ v) (sym (vectors_are points)) o.among) in
          absurd (o.outside (subst (λ v. InCube world (whole_point v)) (sym p.2) (none_outside points e p.0 (firsts_in is_same_point points p.0 p.1)).within))

  pub outside : length (distinct points) ≤ 512 → Spans (distinct points) → Outside (distinct points) → ((k : ℕ) → HasFacets (distinct points) k → k ≤ 128) → first (hull_rows n points) ≡ Some (OutOfWorld n)
  outside le s o most = rows_are false true false true (few_points le) (wide s) (few 128 (length (facets ps)) (most (length (facets ps)) some_facets)) (leaves o)

  -- The solid of a hull.
  module _ (named : List (List ℕ)) (solid : List Side) (hull : IsHull points named solid) (law : HasTheHeld points solid) (le : length (distinct points) ≤ 512) where
    spot : (k : ℕ) → k < length (distinct points) → get_or points (get_or hull.places k 0) (record { x = pos 0; y = pos 0; z = pos 0 }) ≡ get_or ps k (record { x = pos 0; y = pos 0; z = pos 0 })
    spot k lt =
        let zero : Point = record { x = pos 0; y = pos 0; z = pos 0 } in
        let count = hull.are_places.count in
        same_vector (get_or points (get_or hull.places k 0) zero) (get_or ps k zero)
        (hull.are_places.each k zero (vector zero) (omega (arith, lt, count)) ∙ (λ i. get_or (sym (vectors_are points) i) k (vector zero)) ∙ get_or-map vector ps k zero)

    sides_are : (k : ℕ) (ts : List Triple) → Every (FacetAt (distinct points)) ts → sides_from points hull.places k ts ≡ sides_on k (map (points_at ps) ts)
    sides_are k [] each = refl
    sides_are k (t ∷ ts) each =
        let f = each t here in
        let rest = ap (λ j. sides_from points hull.places j ts) (add-one k) ∙ sides_are (suc k) ts (λ u i. each u (there i)) in
        (λ i. record { plane = record { p0 = spot t.a f.a_in i; p1 = spot t.b f.b_in i; p2 = spot t.c f.c_in i }; tag = k } ∷ rest i)

    pub solid_is : solid ≡ sides_on 0 (facets_of points)
    solid_is = hull.sides ∙ sides_are 0 hull.triples hull.are_facets.each ∙ ap (sides_on 0) (planes_are hull.triples hull.are_facets)

    on_count : (k : ℕ) (planes : List ThreePoints) → length (sides_on k planes) ≡ length planes
    on_count k [] = refl
    on_count k (plane ∷ planes) = ap suc (on_count (suc k) planes)

    few_faces : length (facets ps) ≤ 128
    few_faces =
        let most = hull.valid.brush.most in
        subst (λ k. k ≤ 128) (length-map solid bounds ∙ ap length solid_is ∙ on_count 0 (facets ps)) most

    stays : list_any is_outside_world points ≡ false
    stays = by (list_any is_outside_world points) refl
      where
        by : (t : Bool) → list_any is_outside_world points ≡ t → t ≡ false
        by false e = refl
        by true e =
            let p = some_passes is_outside_world points e in
            let x = whole_point (vector p.0) in
            let inside = hull.valid.brush.within x ((law x (some_weight (vector p.0))).1 (λ f below. below (vector p.0) (map_in vector points p.0 p.1))) in
            absurd (true≢false (sym p.2 ∙ within_world p.0 inside))

    pub passes : first (hull_rows n points) ≡ None
    passes = rows_are false true false false (few_points le) (wide hull.spans) (few 128 (length (facets ps)) few_faces) stays
