-- The points to which vertices go: whether they span space, how many facets they have, and whether they leave the world.
use Rattle.std.proofs.Common.{◌≡◌, ℕ, ◌<◌, ◌≤◌, List, [], ◌∷◌, length, map, flat_map, Bool, true, false, not, ◌||◌, IsTrue, refl, ap, sym, ◌∙◌, subst, true≢false, arith, suc, ℤ, pos, neg_ℤ, ◌*ℤ◌, ◌≤ℤ◌, ◌<ℤ◌, unsigned_abs}
use Rattle.std.specs.Prelude.{nat_lt}
use Rattle.std.specs.Bool.{Decides}
use Rattle.std.specs.List.{list_any}
use Rattle.std.proofs.lemmas.Bool.{or_parts, ltb-false}
use Rattle.std.proofs.lemmas.Bool.Decides.{Decides-ltb}
use Rattle.std.proofs.lemmas.Int.{ints}
use Rattle.std.proofs.lemmas.List.{length-map}
use Rattle.algebra.specs.Members.{◌∈◌, here, there}
use Rattle.algebra.specs.Space.{Homogeneous, HalfSpace, side, whole_point}
use Rattle.algebra.specs.World.{InCube, world}
use Rattle.exact_geom.specs.declared.point.Point.{Point}
use Rattle.exact_geom.specs.Planes.{ThreePoints, vector, is_in_range}
use Rattle.trim_laws.specs.Solid.{IsIn}
use Rattle.hull_laws.specs.Facets.{Triple, Facets, Spans, firsts, plane_of}
use Rattle.hull_laws.specs.Moved.{moved_points, same_point}
use Rattle.hull_merge.specs.Hulls.{HasFacets, Outside}
use Rattle.solid_brush.specs.declared.side.Side.{Side}
use Rattle.solid_brush.specs.Sides.{bounds}
use Rattle.map_model.specs.Faces.{Face}
use Rattle.map_model.specs.Shape.{half_spaces}
use Rattle.map_model.specs.Brushes.{facets, with_fields_of, distinct_points, spans_space, is_outside_world}
use Rattle.map_model.proofs.Members.{in_map, map_in}
use Rattle.map_laws.proofs.Refused.{none_passes}
use Rattle.map_laws.proofs.Tests.{some_passes, any_by}
use Rattle.vertex_edit.specs.declared.shape.FromFace.{FromFace}
use Rattle.vertex_edit.specs.Edits.{IsEdit}
use Rattle.vertex_plans.proofs.Changed.{carried, firsts_are, moved_are, goals}
use Rattle.facet_laws.proofs.Distinct.{spans_decides}
use Rattle.facet_laws.specs.Places.{points_at}
use Rattle.facet_laws.proofs.Facets.{facets_are, facet_places, are_facets}

-- The world. ----------------------------------------------------------------------------------------------------------------------------

in_world : (p : Point) → unsigned_abs p.x ≤ 4096 → unsigned_abs p.y ≤ 4096 → unsigned_abs p.z ≤ 4096 → InCube world (whole_point (vector p))
unfolding whole_point
in_world p x y z = record { left = omega (arith, ints); right = omega (arith, ints); near = omega (arith, ints); far = omega (arith, ints); bottom = omega (arith, ints); top = omega (arith, ints) }

-- A point that isn't outside the world is in it.
pub not_outside : (p : Point) → is_outside_world p ≡ false → InCube world (whole_point (vector p))
not_outside p k =
    let x = or_parts (nat_lt 4096 (unsigned_abs p.x)) (nat_lt 4096 (unsigned_abs p.y) || nat_lt 4096 (unsigned_abs p.z)) k in
    let y = or_parts (nat_lt 4096 (unsigned_abs p.y)) (nat_lt 4096 (unsigned_abs p.z)) x.1 in
    in_world p (ltb-false 4096 (unsigned_abs p.x) x.0) (ltb-false 4096 (unsigned_abs p.y) y.0) (ltb-false 4096 (unsigned_abs p.z) y.1)

near_enough : (a : ℕ) → a ≤ 4096 → nat_lt 4096 a ≡ false
near_enough a le = by (nat_lt 4096 a) refl
  where
    by : (t : Bool) → nat_lt 4096 a ≡ t → t ≡ false
    by false e = refl
    by true e = absurd (omega (arith, le, (Decides-ltb 4096 a).0 e))

coordinate : (w x : ℤ) → w ≡ pos 1 → neg_ℤ (world *ℤ w) ≤ℤ x → x ≤ℤ (world *ℤ w) → unsigned_abs x ≤ 4096
coordinate w x e l h = omega (arith, ints)

-- A point of the world isn't outside it.
pub inside : (p : Point) → InCube world (whole_point (vector p)) → is_outside_world p ≡ false
unfolding whole_point
inside p c =
    let x = near_enough (unsigned_abs p.x) (coordinate (pos 1) p.x refl c.left c.right) in
    let y = near_enough (unsigned_abs p.y) (coordinate (pos 1) p.y refl c.near c.far) in
    let z = near_enough (unsigned_abs p.z) (coordinate (pos 1) p.z refl c.bottom c.top) in
    λ i. x i || (y i || z i)

none_any : {A : Type 0} (test : A → Bool) (xs : List A) → ((x : A) → x ∈ xs → test x ≡ false) → list_any test xs ≡ false
none_any test [] h = refl
none_any test (x ∷ xs) h = let e = h x here in let f = none_any test xs (λ y i. h y (there i)) in λ i. e i || f i

whole_weight : (p : Point) → pos 0 <ℤ (whole_point (vector p)).weight
unfolding whole_point
whole_weight p = omega (arith, ints)

-- The faces. ----------------------------------------------------------------------------------------------------------------------------

one_each : (change : Homogeneous → Point) (V : List Homogeneous) (f : Face) (fs : List Face) (ts : List ThreePoints) → length (flat_map (with_fields_of change V (f ∷ fs)) ts) ≡ length ts
one_each change V f fs [] = refl
one_each change V f fs (t ∷ ts) = ap suc (one_each change V f fs ts)

as_many : (change : Homogeneous → Point) (V : List Homogeneous) (fs : List Face) (ts : List ThreePoints) → 0 < length fs → length (flat_map (with_fields_of change V fs) ts) ≡ length ts
as_many change V [] ts some = absurd (omega (arith, some))
as_many change V (f ∷ fs) ts some = one_each change V f fs ts

module _ (change : Homogeneous → Point) (V : List Homogeneous) where
  abbrev ends : List Point
  ends = goals change V

  pub spans_yes : Spans (moved_points (carried change V)) → spans_space ends ≡ true
  spans_yes s = (spans_decides (map change V)).1 (subst Spans (firsts_are change V) s)

  pub spans_no : ¬ (Spans (moved_points (carried change V))) → spans_space ends ≡ false
  spans_no n = by (spans_space ends) refl
    where
      by : (t : Bool) → spans_space ends ≡ t → t ≡ false
      by false e = refl
      by true e = absurd (n (subst Spans (sym (firsts_are change V)) ((spans_decides (map change V)).0 e)))

  pub outside_yes : Outside (moved_points (carried change V)) → list_any is_outside_world ends ≡ true
  outside_yes o = by (list_any is_outside_world ends) refl
    where
      by : (t : Bool) → list_any is_outside_world ends ≡ t → t ≡ true
      by true e = refl
      by false e =
          let q = in_map vector ends o.point (subst (λ ps. o.point ∈ ps) (moved_are change V) o.among) in
          absurd (o.outside (subst (λ v. InCube world (whole_point v)) (sym q.2) (not_outside q.0 (none_passes is_outside_world ends e q.0 q.1))))

  module _ (fs : List Face) (near : (p : Point) → p ∈ ends → IsTrue (is_in_range p)) (some : 0 < length fs) where
    pub facet_count : (n : ℕ) → HasFacets (moved_points (carried change V)) n → length (flat_map (with_fields_of change V fs) (facets ends)) ≡ n
    facet_count n h =
        as_many change V fs (facets ends) some
        ∙ ap length (sym (facets_are ends near h.triples (subst (λ ps. Facets ps h.triples) (moved_are change V) h.are_facets)))
        ∙ length-map h.triples (points_at ends) ∙ h.count

    pub has_facets : HasFacets (moved_points (carried change V)) (length (facet_places ends near))
    has_facets = record { triples = facet_places ends near; are_facets = subst (λ ps. Facets ps (facet_places ends near)) (sym (moved_are change V)) (are_facets ends near); count = refl }

    pub few_facets : ((n : ℕ) → HasFacets (moved_points (carried change V)) n → n ≤ 128) → length (flat_map (with_fields_of change V fs) (facets ends)) ≤ 128
    few_facets h = subst (λ n. n ≤ 128) (sym (facet_count (length (facet_places ends near)) has_facets)) (h (length (facet_places ends near)) has_facets)

  module _ (fs : List Face) (rows : List FromFace) (solid : List Side) (edit : IsEdit (half_spaces fs) (carried change V) rows solid) where
    in_solid : (p : Point) → p ∈ ends → InCube world (whole_point (vector p))
    in_solid p i = edit.valid.brush.within (whole_point (vector p)) (record {
      weight = whole_weight p;
      all = λ f m.
          let t = in_map (plane_of (moved_points (carried change V))) edit.triples f (subst (λ F. f ∈ F) edit.planes m) in
          subst (λ g. side g (whole_point (vector p)) ≤ℤ pos 0) (sym t.2)
          ((edit.are_facets.each t.0 t.1).below (vector p) (subst (λ ps. vector p ∈ ps) (sym (moved_are change V)) (map_in vector ends p i)));
    })

    pub outside_no : list_any is_outside_world ends ≡ false
    outside_no = none_any is_outside_world ends (λ p i. inside p (in_solid p i))

    pub few_sides : length solid ≤ 128
    few_sides = omega (arith, edit.valid.brush.most, length-map solid bounds)
