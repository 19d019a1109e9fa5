-- The facets of points, by the points and by their places.
use Rattle.std.proofs.Common.{◌≡◌, ℕ, ◌<◌, ◌≤◌, List, [], ◌∷◌, map, length, get_or, Bool, true, false, not, ◌&&◌, IsTrue, refl, ap, sym, ◌∙◌, subst, true≢false, arith, ℤ, pos, ◌<ℤ◌, ◌≤ℤ◌}
use Rattle.std.specs.Prelude.{filter, int_le}
use Rattle.std.specs.Bool.{Decides}
use Rattle.std.specs.List.{list_all}
use Rattle.std.proofs.lemmas.Bool.{and_parts, and_from}
use Rattle.std.proofs.lemmas.Int.{ints}
use Rattle.std.proofs.lemmas.List.{length-map}
use Rattle.std.proofs.Math.ListN.{get_or-map}
use Rattle.algebra.specs.Members.{◌∈◌, here, there}
use Rattle.algebra.specs.Space.{Vector, HalfSpace, SameHalfSpace, dot, side, through, whole_point}
use Rattle.algebra.proofs.Members.{member_at}
use Rattle.algebra.proofs.Vectors.{dot-zero_left}
use Rattle.exact_geom.specs.declared.point.Point.{Point}
use Rattle.exact_geom.specs.Planes.{ThreePoints, vector, half_space, is_in_range, is_zero, is_flat, IsPlane}
use Rattle.exact_geom.proofs.PlaneLaws.{is_plane, normal_positive, zero_vector}
use Rattle.trim_laws.proofs.SameHalfSpace.{same_refl, same_sym, same_trans}
use Rattle.hull_laws.specs.Facets.{Triple, FacetAt, SameAt, Facets, plane_of}
use Rattle.hull_laws.specs.Pivots.{triples}
use Rattle.hull_laws.proofs.Triples.{has_a}
use Rattle.hull_laws.proofs.Unique.{one_facets}
use Rattle.map_model.specs.Brushes.{holds_all, facets, first_of_each, have_one_half_space}
use Rattle.map_model.proofs.Members.{in_map, map_in, in_filter, filter_in, decides_most}
use Rattle.map_model.proofs.Meaning.{same_half_space}
use Rattle.map_laws.proofs.Tests.{not_true, all_true, all_by}
use Rattle.facet_laws.specs.Places.{nowhere, points_at}
use Rattle.facet_laws.proofs.Places.{all_triples, triples_rise, in_a}
use Rattle.facet_laws.proofs.Listing.{map_filter, map_chosen, rising_filter, listed}

unflat : (t : ThreePoints) → pos 0 <ℤ dot (half_space t).normal (half_space t).normal → is_flat t ≡ false
unflat t p = by (is_zero (half_space t).normal) refl
  where
    by : (k : Bool) → is_zero (half_space t).normal ≡ k → k ≡ false
    by false e = refl
    by true e =
        let z = zero_vector (half_space t).normal e in
        let s = dot-zero_left (half_space t).normal (half_space t).normal (record { x = z.0; y = z.1; z = z.2 }) in
        absurd (omega (arith, ints))

pub plane_at : (ps : List Point) (t : Triple) → half_space (points_at ps t) ≡ plane_of (map vector ps) t
plane_at ps t = λ i. through (sym (get_or-map vector ps t.a nowhere) i) (sym (get_or-map vector ps t.b nowhere) i) (sym (get_or-map vector ps t.c nowhere) i)

module _ (ps : List Point) (near : (p : Point) → p ∈ ps → IsTrue (is_in_range p)) where
  abbrev vs : List Vector
  vs = map vector ps

  abbrev good : Triple → Bool
  good t = holds_all ps (points_at ps t)

  abbrev behind : ThreePoints → Point → Bool
  behind u p = int_le (side (half_space u) (whole_point (vector p))) (pos 0)

  abbrev all : List Triple
  all = filter good (triples (length ps))

  -- The test tells facets.
  facet_of : (t : Triple) → t ∈ all → FacetAt vs t
  facet_of t i =
      let k = in_filter good (triples (length ps)) t i in
      let w = in_a (length ps) 0 (length ps) t k.0 in
      let u = points_at ps t in
      let h = and_parts (not (is_flat u)) (list_all (behind u) ps) k.1 in
      let plane : IsPlane u = is_plane u (record {
        first = near u.p0 (member_at ps t.a nowhere (omega (arith, w.high)));
        second = near u.p1 (member_at ps t.b nowhere w.second);
        third = near u.p2 (member_at ps t.c nowhere w.third);
        apart = not_true (is_flat u) h.0;
      }) in
      let count = length-map ps vector in
      record {
        a_in = omega (arith, w.high, count);
        b_in = omega (arith, w.second, count);
        c_in = omega (arith, w.third, count);
        not_on_a_line = subst (λ g. pos 0 <ℤ dot g.normal g.normal) (plane_at ps t) (normal_positive u plane);
        below = λ v j.
            let q = in_map vector ps v j in
            subst (λ w. side (plane_of vs t) (whole_point w) ≤ℤ pos 0) (sym q.2)
            (subst (λ g. side g (whole_point (vector q.0)) ≤ℤ pos 0) (plane_at ps t) ((decides_most (side (half_space u) (whole_point (vector q.0))) (pos 0)).0 (all_true (behind u) ps h.1 q.0 q.1)));
      }

  facet_in : (t : Triple) → FacetAt vs t → t ∈ all
  facet_in t f =
      let u = points_at ps t in
      let count = length-map ps vector in
      filter_in good (triples (length ps)) t (has_a (length ps) 0 (length ps) t.a t.b t.c (omega arith) (omega (arith, f.a_in, count)) (omega (arith, f.b_in, count)) (omega (arith, f.c_in, count)))
      (and_from (not (is_flat u)) (list_all (behind u) ps) (ap not (unflat u (subst (λ g. pos 0 <ℤ dot g.normal g.normal) (sym (plane_at ps t)) f.not_on_a_line)))
      (all_by (behind u) ps (λ p i. (decides_most (side (half_space u) (whole_point (vector p))) (pos 0)).1
      (subst (λ g. side g (whole_point (vector p)) ≤ℤ pos 0) (sym (plane_at ps t)) (f.below (vector p) (map_in vector ps p i))))))

  abbrev alike : Triple → Triple → Bool
  alike s t = have_one_half_space (points_at ps s) (points_at ps t)

  proper : (t : Triple) → FacetAt vs t → pos 0 <ℤ dot (half_space (points_at ps t)).normal (half_space (points_at ps t)).normal
  proper t f = subst (λ g. pos 0 <ℤ dot g.normal g.normal) (sym (plane_at ps t)) f.not_on_a_line

  tells : (s t : Triple) → FacetAt vs s → FacetAt vs t → Decides (alike s t) (SameAt vs s t)
  tells s t f g =
      subst (λ h. Decides (alike s t) (SameHalfSpace h (plane_of vs t))) (plane_at ps s)
      (subst (λ h. Decides (alike s t) (SameHalfSpace (half_space (points_at ps s)) h)) (plane_at ps t)
      (same_half_space (half_space (points_at ps s)) (half_space (points_at ps t)) (proper s f) (proper t g)))

  -- The facets by their places.
  abbrev pub facet_places : List Triple
  facet_places = first_of_each alike all

  pub are_facets : Facets vs facet_places
  are_facets =
      listed alike (FacetAt vs) (SameAt vs) tells (λ t. same_refl (plane_of vs t)) (λ s t e. same_sym e) (λ s t u e f. same_trans e f)
      all (rising_filter good (triples (length ps)) (triples_rise (length ps))) facet_of facet_in

  pub facets_are : (ts : List Triple) → Facets vs ts → map (points_at ps) ts ≡ facets ps
  facets_are ts F =
      ap (map (points_at ps)) (one_facets vs ts facet_places F are_facets)
      ∙ map_chosen (points_at ps) have_one_half_space all
      ∙ ap (first_of_each have_one_half_space) (map_filter (points_at ps) (holds_all ps) (triples (length ps)) ∙ ap (filter (holds_all ps)) (all_triples ps nowhere))
