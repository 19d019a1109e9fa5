-- The facets of points that span space and lie in the world: the solid behind them is a brush, where they are few.
use Rattle.std.proofs.Common.{◌≡◌, ◌≤◌, List, [], ◌∷◌, map, length, Bool, true, false, not, cond, ◌||◌, refl, ap, sym, ◌∙◌, subst, true≢false, arith, ℤ, pos, neg_ℤ, ◌<ℤ◌, ◌≤ℤ◌}
use Rattle.std.specs.Prelude.{filter, int_le, flat_map, nat_lt, unsigned_abs}
use Rattle.std.specs.List.{list_any, list_all}
use Rattle.std.specs.Ordering.{int_eq}
use Rattle.std.proofs.lemmas.Bool.{and_parts, and_from, or_parts, ltb-false}
use Rattle.std.proofs.lemmas.Bool.Decides.{Decides-int_eq}
use Rattle.std.proofs.lemmas.Int.{ints, by_lt_z}
use Rattle.std.proofs.lemmas.List.{length-map}
use Rattle.algebra.specs.Members.{◌∈◌, here, there}
use Rattle.algebra.specs.Space.{Vector, Homogeneous, HalfSpace, SameHalfSpace, det, dot, minus, side, through, whole_point}
use Rattle.algebra.specs.World.{InCube, world}
use Rattle.algebra.proofs.Identities.{det-swap_12}
use Rattle.algebra.proofs.Orders.{by_sign}
use Rattle.algebra.proofs.Vectors.{dot-zero_left}
use Rattle.exact_geom.specs.declared.point.Point.{Point}
use Rattle.exact_geom.specs.Planes.{ThreePoints, half_space, vector, is_zero, is_flat, IsPlane}
use Rattle.exact_geom.proofs.PlaneLaws.{is_plane, normal_positive, zero_vector}
use Rattle.trim_laws.specs.Solid.{IsIn, IsInside}
use Rattle.trim_laws.specs.Trim.{Bears, Trims, ends, keeps}
use Rattle.trim_laws.specs.Valid.{Valid}
use Rattle.trim_laws.proofs.Bearing.{in_of_inside}
use Rattle.trim_laws.proofs.SameHalfSpace.{same_refl, same_sym, same_trans}
use Rattle.vertex_laws.proofs.Cube.{in_walls, of_walls}
use Rattle.solid_laws.proofs.FourFaces.{four_faces}
use Rattle.solid_laws.proofs.World.{world_bounded}
use Rattle.hull_laws.specs.Facets.{Below, Spans}
use Rattle.hull_laws.specs.Pivots.{Facet}
use Rattle.hull_laws.proofs.Connect.{sum_3, inner, inner_weight, inside}
use Rattle.hull_laws.proofs.Faces.{each_of_map}
use Rattle.hull_laws.proofs.First.{same_of_ratio}
use Rattle.hull_laws.proofs.Loop.{own_point, own_on}
use Rattle.hull_laws.proofs.Separate.{separate}
use Rattle.map_model.specs.Brushes.{spans_space, holds_all, triples, facets, first_of_each, have_one_half_space, is_outside_world}
use Rattle.map_model.proofs.Members.{in_map, map_in, in_flat, flat_in, in_filter, filter_in, decides_most}
use Rattle.map_model.proofs.Meaning.{same_half_space}
use Rattle.map_laws.proofs.Tests.{not_true, all_true, all_by, some_passes}
use Rattle.map_laws.proofs.Refused.{none_passes}
use Rattle.map_laws.proofs.Boxes.{IsNear}
use Rattle.map_laws.proofs.Clipping.{in_range}

-- Points of the world. -----------------------------------------------------------------------------------------------------------------

-- No coordinate is beyond the world.
pub record InWorld (p : Point) : Type 0 where
  pub near : IsNear p
  pub within : InCube world (whole_point (vector p))

pub in_world : (p : Point) → unsigned_abs p.x ≤ 4096 → unsigned_abs p.y ≤ 4096 → unsigned_abs p.z ≤ 4096 → InWorld p
unfolding whole_point
in_world p x y z = record {
  near = record { x = omega (arith, x); y = omega (arith, y); z = omega (arith, z) };
  within = record { left = omega (arith, ints); right = omega (arith, ints); near = omega (arith, ints); far = omega (arith, ints); bottom = omega (arith, ints); top = omega (arith, ints) };
}

pub none_outside : (points : List Point) → list_any is_outside_world points ≡ false → (p : Point) → p ∈ points → InWorld p
none_outside points e p i =
    let k = none_passes is_outside_world points e p i in
    let x = or_parts (nat_lt 4096 (unsigned_abs p.x)) (nat_lt 4096 (unsigned_abs p.y) || nat_lt 4096 (unsigned_abs p.z)) k in
    let y = or_parts (nat_lt 4096 (unsigned_abs p.y)) (nat_lt 4096 (unsigned_abs p.z)) x.1 in
    in_world p (ltb-false 4096 (unsigned_abs p.x) x.0) (ltb-false 4096 (unsigned_abs p.y) y.0) (ltb-false 4096 (unsigned_abs p.z) y.1)

-- Four points span space. --------------------------------------------------------------------------------------------------------------

spans : (points : List Point) → spans_space points ≡ true → Spans (map vector points)
spans points e =
    let a = some_passes _ points e in
    let b = some_passes _ points a.2 in
    let c = some_passes _ points b.2 in
    let d = some_passes _ points c.2 in
    let v = λ (p : Point) (i : p ∈ points). map_in vector points p i in
    let p = minus (vector b.0) (vector a.0) in
    let q = minus (vector c.0) (vector a.0) in
    let r = minus (vector d.0) (vector a.0) in
    by_sign (det p q r)
    (λ l. record { a = vector a.0; b = vector c.0; c = vector b.0; d = vector d.0; a_in = v a.0 a.1; b_in = v c.0 c.1; c_in = v b.0 b.1; d_in = v d.0 d.1; volume = turned (det p q r) (det q p r) (det-swap_12 p q r) l })
    (λ z. absurd (true≢false (sym ((Decides-int_eq (det p q r) (pos 0)).1 z) ∙ not_true (int_eq (det p q r) (pos 0)) d.2)))
    (λ l. record { a = vector a.0; b = vector b.0; c = vector c.0; d = vector d.0; a_in = v a.0 a.1; b_in = v b.0 b.1; c_in = v c.0 c.1; d_in = v d.0 d.1; volume = l })
  where
    turned : (x y : ℤ) → y ≡ neg_ℤ x → x <ℤ pos 0 → pos 0 <ℤ y
    turned x y e l = omega (arith, ints)

-- The first of each half-space. ----------------------------------------------------------------------------------------------------------

pub firsts_in : {A : Type 0} (same : A → A → Bool) (ts : List A) (t : A) → t ∈ first_of_each same ts → t ∈ ts
firsts_in same [] t i = elim i [ ]
firsts_in same (x ∷ xs) t here = here
firsts_in same (x ∷ xs) t (there i) = there (firsts_in same xs t (in_filter (λ y. not (same x y)) (first_of_each same xs) t i).0)

-- No two have one half-space.
Distinct : List ThreePoints → Type 0
Distinct [] = Unit {0}
Distinct (t ∷ ts) = ((u : ThreePoints) → u ∈ ts → have_one_half_space t u ≡ false) × Distinct ts

distinct_filter : (p : ThreePoints → Bool) (ts : List ThreePoints) → Distinct ts → Distinct (filter p ts)
unfolding Distinct
distinct_filter p [] d = tt
distinct_filter p (t ∷ ts) d = by (p t) (distinct_filter p ts d.1)
  where
    by : (k : Bool) → Distinct (filter p ts) → Distinct (cond k (t ∷ filter p ts) (filter p ts))
    by true later = ((λ u i. d.0 u (in_filter p ts u i).0), later)
    by false later = later

distinct_firsts : (ts : List ThreePoints) → Distinct (first_of_each have_one_half_space ts)
unfolding Distinct
distinct_firsts [] = tt
distinct_firsts (t ∷ ts) = (
  (λ u i. not_true (have_one_half_space t u) (in_filter (λ y. not (have_one_half_space t y)) (first_of_each have_one_half_space ts) u i).1),
  distinct_filter (λ y. not (have_one_half_space t y)) (first_of_each have_one_half_space ts) (distinct_firsts ts),
)

abbrev IsProper : ThreePoints → Type 0
IsProper t = pos 0 <ℤ dot (half_space t).normal (half_space t).normal

-- Each half-space is among the first.
record Stands (ts : List ThreePoints) (t : ThreePoints) : Type 0 where
  it : ThreePoints
  among : it ∈ ts
  same : SameHalfSpace (half_space it) (half_space t)

firsts_have : (ts : List ThreePoints) → ((u : ThreePoints) → u ∈ ts → IsProper u) → (t : ThreePoints) → t ∈ ts → Stands (first_of_each have_one_half_space ts) t
firsts_have [] proper t i = elim i [ ]
firsts_have (x ∷ xs) proper t here = record { it = x; among = here; same = same_refl (half_space x) }
firsts_have (x ∷ xs) proper t (there i) = by (firsts_have xs (λ u j. proper u (there j)) t i)
  where
    by : Stands (first_of_each have_one_half_space xs) t → Stands (first_of_each have_one_half_space (x ∷ xs)) t
    by s = pick (have_one_half_space x s.it) refl
      where
        pick : (k : Bool) → have_one_half_space x s.it ≡ k → Stands (first_of_each have_one_half_space (x ∷ xs)) t
        pick true e = record { it = x; among = here; same = same_trans ((same_half_space (half_space x) (half_space s.it) (proper x here) (proper s.it (there (firsts_in have_one_half_space xs s.it s.among)))).0 e) s.same }
        pick false e = record { it = s.it; among = there (filter_in (λ y. not (have_one_half_space x y)) (first_of_each have_one_half_space xs) s.it s.among (ap not e)); same = s.same }

-- The facets. ----------------------------------------------------------------------------------------------------------------------------

proper_unflat : (t : ThreePoints) → IsProper t → is_flat t ≡ false
proper_unflat t p = by (is_zero (half_space t).normal) refl
  where
    by : (k : Bool) → is_zero (half_space t).normal ≡ k → k ≡ false
    by false e = refl
    by true e =
        let z = zero_vector (half_space t).normal e in
        let s = dot-zero_left (half_space t).normal (half_space t).normal (record { x = z.0; y = z.1; z = z.2 }) in
        absurd (omega (arith, ints))

sum_weight : (a b c : Vector) → pos 0 <ℤ (sum_3 a b c).weight
unfolding sum_3
sum_weight a b c = omega (arith, ints)

module _ (points : List Point) (near : (p : Point) → p ∈ points → InWorld p) (wide : spans_space points ≡ true) where
  S : Spans (map vector points)
  S = spans points wide

  -- A triple of the points that holds all.
  record Held (t : ThreePoints) : Type 0 where
    first : t.p0 ∈ points
    second : t.p1 ∈ points
    third : t.p2 ∈ points
    unflat : is_flat t ≡ false
    below : (p : Point) → p ∈ points → side (half_space t) (whole_point (vector p)) ≤ℤ pos 0

  held : (t : ThreePoints) → t ∈ filter (holds_all points) (triples points) → Held t
  held t i =
      let k = in_filter (holds_all points) (triples points) t i in
      let a = in_flat (λ a. flat_map (λ b. map (λ c. record { p0 = a; p1 = b; p2 = c }) points) points) points t k.0 in
      let b = in_flat (λ b. map (λ c. record { p0 = a.0; p1 = b; p2 = c }) points) points t a.2 in
      let c = in_map (λ c. record { p0 = a.0; p1 = b.0; p2 = c }) points t b.2 in
      let h = and_parts (not (is_flat t)) (list_all (λ p. int_le (side (half_space t) (whole_point (vector p))) (pos 0)) points) k.1 in
      record {
        first = subst (λ u. u.p0 ∈ points) (sym c.2) a.1;
        second = subst (λ u. u.p1 ∈ points) (sym c.2) b.1;
        third = subst (λ u. u.p2 ∈ points) (sym c.2) c.1;
        unflat = not_true (is_flat t) h.0;
        below = λ p j. (decides_most (side (half_space t) (whole_point (vector p))) (pos 0)).0 (all_true (λ p. int_le (side (half_space t) (whole_point (vector p))) (pos 0)) points h.1 p j);
      }

  held_plane : (t : ThreePoints) → Held t → IsPlane t
  held_plane t h = is_plane t (record { first = in_range t.p0 (near t.p0 h.first).near; second = in_range t.p1 (near t.p1 h.second).near; third = in_range t.p2 (near t.p2 h.third).near; apart = h.unflat })

  facet_held : (t : ThreePoints) → t ∈ facets points → Held t
  facet_held t i = held t (firsts_in have_one_half_space (filter (holds_all points) (triples points)) t i)

  pub facet_plane : (t : ThreePoints) → t ∈ facets points → IsPlane t
  facet_plane t i = held_plane t (facet_held t i)

  below_all : (t : ThreePoints) → Held t → Below (map vector points) (half_space t)
  below_all t h v i = let q = in_map vector points v i in subst (λ w. side (half_space t) (whole_point w) ≤ℤ pos 0) (sym q.2) (h.below q.0 q.1)

  facet_of : (t : ThreePoints) → Held t → Facet (map vector points) (vector t.p0) (vector t.p1) (vector t.p2)
  facet_of t h = record {
    a_in = map_in vector points t.p0 h.first;
    b_in = map_in vector points t.p1 h.second;
    c_in = map_in vector points t.p2 h.third;
    not_on_a_line = normal_positive t (held_plane t h);
    below = below_all t h;
  }

  proper : (t : ThreePoints) → t ∈ facets points → IsProper t
  proper t i = normal_positive t (facet_plane t i)

  own : (t : ThreePoints) → t ∈ facets points → Bears (map half_space (facets points)) (half_space t)
  own t i = record {
    at = sum_3 (vector t.p0) (vector t.p1) (vector t.p2);
    weight = sum_weight (vector t.p0) (vector t.p1) (vector t.p2);
    on = own_on (vector t.p0) (vector t.p1) (vector t.p2);
    others = each_of_map (λ g. ¬ (SameHalfSpace (half_space t) g) → side g (sum_3 (vector t.p0) (vector t.p1) (vector t.p2)) <ℤ pos 0) half_space (facets points)
        (λ u j other. own_point (map vector points) S (half_space u) (proper u j) (below_all u (facet_held u j)) (vector t.p0) (vector t.p1) (vector t.p2) (facet_of t (facet_held t i)) (λ r. other (same_sym (same_of_ratio r))));
  }

  kept : (earlier rest : List ThreePoints) → ((t : ThreePoints) → t ∈ rest → t ∈ facets points) → ((t : ThreePoints) → t ∈ earlier → t ∈ facets points) → Distinct rest →
      ((e r : ThreePoints) → e ∈ earlier → r ∈ rest → have_one_half_space e r ≡ false) → Trims (map half_space (facets points)) (map half_space earlier) (map half_space rest) (map half_space rest)
  unfolding Distinct
  kept earlier [] all before d apart = ends
  kept earlier (t ∷ rest) all before d apart = keeps
      (record {
        first = each_of_map (λ g. ¬ (SameHalfSpace g (half_space t))) half_space earlier
            (λ e i h. true≢false (sym ((same_half_space (half_space e) (half_space t) (proper e (before e i)) (proper t (all t here))).1 h) ∙ apart e t i here));
        bears = own t (all t here);
      })
      (kept (t ∷ earlier) rest (λ u i. all u (there i)) (λ u i. later u i) d.1 (λ e r i j. from e r i j))
    where
      later : (u : ThreePoints) → u ∈ (t ∷ earlier) → u ∈ facets points
      later u here = all u here
      later u (there i) = before u i

      from : (e r : ThreePoints) → e ∈ (t ∷ earlier) → r ∈ rest → have_one_half_space e r ≡ false
      from e r here j = d.0 r j
      from e r (there i) j = apart e r i (there j)

  -- A point that is in front of no facet is in each half-space with all points.
  found : (a b c : Point) → a ∈ points → b ∈ points → c ∈ points → Facet (map vector points) (vector a) (vector b) (vector c) → Stands (facets points) (record { p0 = a; p1 = b; p2 = c })
  found a b c ia ib ic f =
      let t : ThreePoints = record { p0 = a; p1 = b; p2 = c } in
      firsts_have (filter (holds_all points) (triples points)) (λ u i. normal_positive u (held_plane u (held u i))) t
      (filter_in (holds_all points) (triples points) t
      (flat_in (λ a. flat_map (λ b. map (λ c. record { p0 = a; p1 = b; p2 = c }) points) points) points a t ia
      (flat_in (λ b. map (λ c. record { p0 = a; p1 = b; p2 = c }) points) points b t ib (map_in (λ c. record { p0 = a; p1 = b; p2 = c }) points c ic)))
      (and_from (not (is_flat t)) (list_all (λ p. int_le (side (half_space t) (whole_point (vector p))) (pos 0)) points) (ap not (proper_unflat t f.not_on_a_line))
      (all_by (λ p. int_le (side (half_space t) (whole_point (vector p))) (pos 0)) points (λ p i. (decides_most (side (half_space t) (whole_point (vector p))) (pos 0)).1 (f.below (vector p) (map_in vector points p i))))))

  module _ (X : Homogeneous) (is_in : IsIn (map half_space (facets points)) X) where
    not_out : (a b c : Point) → a ∈ points → b ∈ points → c ∈ points → Facet (map vector points) (vector a) (vector b) (vector c) → pos 0 <ℤ side (through (vector a) (vector b) (vector c)) X → ⊥
    not_out a b c ia ib ic f out =
        let s = found a b c ia ib ic f in
        let l = s.same.onto X is_in.weight (is_in.all (half_space s.it) (map_in half_space (facets points) s.it s.among)) in
        absurd (omega (arith, ints))

    left_out : (a b c : Vector) → Facet (map vector points) a b c → pos 0 <ℤ side (through a b c) X → ⊥
    left_out a b c f out =
        let p = in_map vector points a f.a_in in
        let q = in_map vector points b f.b_in in
        let r = in_map vector points c f.c_in in
        subst (λ v. Facet (map vector points) v b c → pos 0 <ℤ side (through v b c) X → ⊥) (sym p.2)
        (subst (λ v. Facet (map vector points) (vector p.0) v c → pos 0 <ℤ side (through (vector p.0) v c) X → ⊥) (sym q.2)
        (subst (λ v. Facet (map vector points) (vector p.0) (vector q.0) v → pos 0 <ℤ side (through (vector p.0) (vector q.0) v) X → ⊥) (sym r.2) (not_out p.0 q.0 r.0 p.1 q.1 r.1))) f out

    in_all : (f : HalfSpace) → Below (map vector points) f → side f X ≤ℤ pos 0
    in_all f below = by_lt_z (pos 0) (side f X) (λ out. let l = separate (map vector points) S X is_in.weight f below out in absurd (left_out l.a l.there.b l.there.c l.there.facet l.there.out)) (λ l. l)

    stays : InCube world X
    stays = of_walls world X (λ f m. in_all f (λ v j.
        let q = in_map vector points v j in
        subst (λ w. side f (whole_point w) ≤ℤ pos 0) (sym q.2) (in_walls world (whole_point (vector q.0)) (near q.0 q.1).within f m)))

  pub hull_valid : length (facets points) ≤ 128 → Valid (map half_space (facets points))
  hull_valid few =
      let o = inner (map vector points) S in
      let in_hull : IsInside (map half_space (facets points)) o = record {
        weight = inner_weight (map vector points) S;
        all = each_of_map (λ g. side g (inner (map vector points) S) <ℤ pos 0) half_space (facets points) (λ t i. inside (map vector points) S (half_space t) (proper t i) (below_all t (facet_held t i)));
      } in
      record {
        trimmed = kept [] (facets points) (λ t i. i) (λ t i. elim i [ ]) (distinct_firsts (filter (holds_all points) (triples points))) (λ e r i j. elim i [ ]);
        least = four_faces (map half_space (facets points)) (world_bounded (map half_space (facets points)) o (in_of_inside in_hull) stays);
        most = omega (arith, length-map (facets points) half_space);
        volume = record { at = o; inside = in_hull };
        within = stays;
      }
