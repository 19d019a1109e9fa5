-- Distinct points as vectors, and whether they span space.
use Rattle.std.proofs.Common.{◌≡◌, List, [], ◌∷◌, map, length, Bool, true, false, not, ◌&&◌, refl, ap, sym, ◌∙◌, subst, true≢false, arith, ℤ, pos, neg_ℤ, ◌<ℤ◌}
use Rattle.std.specs.Prelude.{filter}
use Rattle.std.specs.Bool.{Decides}
use Rattle.std.specs.List.{list_any}
use Rattle.std.specs.Ordering.{int_eq}
use Rattle.std.proofs.lemmas.Bool.Decides.{Decides-int_eq}
use Rattle.std.proofs.lemmas.Int.{ints}
use Rattle.std.proofs.lemmas.List.{length-map}
use Rattle.algebra.specs.Members.{◌∈◌}
use Rattle.algebra.specs.Space.{Vector, det, minus}
use Rattle.algebra.proofs.Orders.{by_sign}
use Rattle.algebra.proofs.Identities.{det-swap_12}
use Rattle.exact_geom.specs.declared.point.Point.{Point}
use Rattle.exact_geom.specs.Planes.{vector, is_in_range}
use Rattle.hull_laws.specs.Facets.{Spans, firsts}
use Rattle.hull_laws.specs.Moved.{same_point}
use Rattle.map_model.specs.Brushes.{is_same_point, distinct_points, spans_space}
use Rattle.map_model.proofs.Members.{in_map, map_in, any_decides}
use Rattle.facet_laws.proofs.Listing.{map_filter}

pub same_vector : (p q : Point) → vector p ≡ vector q → p ≡ q
same_vector p q e = λ i. record { x = (e i).x; y = (e i).y; z = (e i).z }

same_is : (p q : Point) → is_same_point p q ≡ same_point (vector p) (vector q)
same_is p q = by (int_eq p.x q.x) (int_eq p.y q.y) (int_eq p.z q.z)
  where
    by : (x y z : Bool) → (x && (y && z)) ≡ ((x && y) && z)
    by true y z = refl
    by false y z = refl

pub vectors_are : (ps : List Point) → map vector (distinct_points ps) ≡ firsts same_point (map vector ps)
vectors_are [] = refl
vectors_are (p ∷ ps) =
    ap (λ (other : Point → Bool). vector p ∷ map vector (filter other (distinct_points ps))) (λ i q. not (same_is p q i))
    ∙ ap (λ l. vector p ∷ l) (map_filter vector (λ v. not (same_point (vector p) v)) (distinct_points ps) ∙ ap (filter (λ v. not (same_point (vector p) v))) (vectors_are ps))

pub count_is : (ps : List Point) → length (firsts same_point (map vector ps)) ≡ length (distinct_points ps)
count_is ps = sym (ap length (vectors_are ps)) ∙ length-map (distinct_points ps) vector

-- Four points that aren't in one plane. --------------------------------------------------------------------------------------------------

abbrev volume : Point → Point → Point → Point → ℤ
volume a b c d = det (minus (vector b) (vector a)) (minus (vector c) (vector a)) (minus (vector d) (vector a))

abbrev OffPlane : List Point → Type 0
OffPlane ps = (a : Point) × (a ∈ ps) × ((b : Point) × (b ∈ ps) × ((c : Point) × (c ∈ ps) × ((d : Point) × (d ∈ ps) × ¬ (volume a b c d ≡ pos 0))))

not_zero : (z : ℤ) → Decides (not (int_eq z (pos 0))) (¬ (z ≡ pos 0))
not_zero z = by (int_eq z (pos 0)) (Decides-int_eq z (pos 0))
  where
    by : (t : Bool) → Decides t (z ≡ pos 0) → Decides (not t) (¬ (z ≡ pos 0))
    by true d = (λ e. absurd (true≢false (sym e)), λ n. absurd (n (d.0 refl)))
    by false d = (λ e z. true≢false (sym (d.1 z)), λ n. refl)

off_plane : (ps : List Point) → Decides (spans_space ps) (OffPlane ps)
off_plane ps = any_decides _ _ ps (λ a i. any_decides _ _ ps (λ b i. any_decides _ _ ps (λ c i. any_decides _ _ ps (λ d i. not_zero (volume a b c d)))))

spans : (ps : List Point) → OffPlane ps → Spans (map vector ps)
spans ps (a, i, (b, j, (c, k, (d, l, n)))) =
    let v = λ (p : Point) (i : p ∈ ps). map_in vector ps p i in
    let p = minus (vector b) (vector a) in
    let q = minus (vector c) (vector a) in
    let r = minus (vector d) (vector a) in
    by_sign (det p q r)
    (λ m. record { a = vector a; b = vector c; c = vector b; d = vector d; a_in = v a i; b_in = v c k; c_in = v b j; d_in = v d l; volume = turned (det p q r) (det q p r) (det-swap_12 p q r) m })
    (λ z. absurd (n z))
    (λ m. record { a = vector a; b = vector b; c = vector c; d = vector d; a_in = v a i; b_in = v b j; c_in = v c k; d_in = v d l; volume = m })
  where
    turned : (x y : ℤ) → y ≡ neg_ℤ x → x <ℤ pos 0 → pos 0 <ℤ y
    turned x y e m = omega (arith, ints)

positive : (z : ℤ) → pos 0 <ℤ z → ¬ (z ≡ pos 0)
positive z l e = omega (arith, ints)

spanned : (ps : List Point) → Spans (map vector ps) → OffPlane ps
spanned ps s =
    let a = in_map vector ps s.a s.a_in in
    let b = in_map vector ps s.b s.b_in in
    let c = in_map vector ps s.c s.c_in in
    let d = in_map vector ps s.d s.d_in in
    (a.0, a.1, (b.0, b.1, (c.0, c.1, (d.0, d.1, positive (volume a.0 b.0 c.0 d.0) (subst (λ z. pos 0 <ℤ z) (λ i. det (minus (b.2 i) (a.2 i)) (minus (c.2 i) (a.2 i)) (minus (d.2 i) (a.2 i))) s.volume)))))

pub spans_decides : (ps : List Point) → Decides (spans_space (distinct_points ps)) (Spans (firsts same_point (map vector ps)))
spans_decides ps =
    let d = off_plane (distinct_points ps) in
    (λ e. subst Spans (vectors_are ps) (spans (distinct_points ps) (d.0 e)), λ s. d.1 (spanned (distinct_points ps) (subst Spans (sym (vectors_are ps)) s)))
