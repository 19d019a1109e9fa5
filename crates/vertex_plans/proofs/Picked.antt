-- Picked vertices and where they go.
use Rattle.std.proofs.Common.{◌≡◌, ℕ, zero, suc, ◌+◌, ◌<◌, ◌≤◌, List, [], ◌∷◌, length, map, get_or, cond, Bool, true, false, not, ◌&&◌, ◌||◌, IsTrue, Option, None, Some, refl, ap, ap₂, sym, ◌∙◌, subst, true≢false, arith, ℤ, pos}
use Rattle.std.specs.Prelude.{filter, option_map}
use Rattle.std.specs.Bool.{Decides}
use Rattle.std.specs.List.{list_any, list_all}
use Rattle.std.specs.Ordering.{int_eq}
use Rattle.std.proofs.lemmas.Bool.{and_parts}
use Rattle.std.proofs.lemmas.Int.{ints}
use Rattle.std.proofs.lemmas.Bool.Decides.{Decides-int_eq}
use Rattle.algebra.specs.Members.{◌∈◌, here, there, Every}
use Rattle.algebra.proofs.Members.{member_at, at_of_member}
use Rattle.algebra.specs.Space.{Homogeneous, HalfSpace, whole_point}
use Rattle.algebra.specs.World.{InCube, world}
use Rattle.exact_geom.specs.declared.point.Point.{Point}
use Rattle.exact_geom.specs.Planes.{vector, is_in_range}
use Rattle.hull_laws.specs.Moved.{Carried}
use Rattle.hull_merge.specs.Gathered.{whole_of, HasWeight}
use Rattle.hull_merge.specs.Hulls.{zero_point}
use Rattle.map_model.specs.Brushes.{is_same_point, is_point_among, is_whole, as_point, picked, moved_by, first_place, distinct_points}
use Rattle.map_model.specs.Commands.{vector_in}
use Rattle.map_model.proofs.Members.{in_map, map_in, in_filter, filter_in}
use Rattle.map_laws.proofs.Clipping.{in_range as near_in_range}
use Rattle.map_laws.proofs.Tests.{some_passes, any_by, all_by, all_true}
use Rattle.vertex_edit.specs.Places.{moved, is_pick, place_of, GoesInRange}
use Rattle.vertex_plans.proofs.Changed.{carried}

-- One point. ----------------------------------------------------------------------------------------------------------------------------

equal_back : (a b : ℤ) → int_eq a b ≡ int_eq b a
equal_back a b = by (int_eq a b) (int_eq b a) refl refl
  where
    by : (s t : Bool) → int_eq a b ≡ s → int_eq b a ≡ t → s ≡ t
    by true true e f = refl
    by false false e f = refl
    by true false e f = absurd (true≢false (sym ((Decides-int_eq b a).1 (sym ((Decides-int_eq a b).0 e))) ∙ f))
    by false true e f = absurd (true≢false (sym ((Decides-int_eq a b).1 (sym ((Decides-int_eq b a).0 f))) ∙ e))

pub same_point_is : (p q : Point) → is_same_point p q ≡ true → p ≡ q
same_point_is p q e =
    let a = and_parts (int_eq p.x q.x) (int_eq p.y q.y && int_eq p.z q.z) e in
    let b = and_parts (int_eq p.y q.y) (int_eq p.z q.z) a.1 in
    let x = (Decides-int_eq p.x q.x).0 a.0 in
    let y = (Decides-int_eq p.y q.y).0 b.0 in
    let z = (Decides-int_eq p.z q.z).0 b.1 in
    λ i. record { x = x i; y = y i; z = z i }

same_itself : (p : Point) → is_same_point p p ≡ true
same_itself p =
    let x = (Decides-int_eq p.x p.x).1 refl in
    let y = (Decides-int_eq p.y p.y).1 refl in
    let z = (Decides-int_eq p.z p.z).1 refl in
    λ i. x i && (y i && z i)

pub distinct_in : (ps : List Point) (p : Point) → p ∈ distinct_points ps → p ∈ ps
distinct_in [] p i = elim i [ ]
distinct_in (q ∷ ps) p here = here
distinct_in (q ∷ ps) p (there i) = there (distinct_in ps p (in_filter (λ y. not (is_same_point q y)) (distinct_points ps) p i).0)

-- Whole vertices as points. ---------------------------------------------------------------------------------------------------------------

whole_is : (v : Homogeneous) → is_whole v ≡ true → v ≡ whole_of (as_point v)
unfolding whole_point
whole_is v e = let w = (Decides-int_eq v.weight (pos 1)).0 e in λ i. record { vector = v.vector; weight = w i }

point_whole : (p : Point) → is_whole (whole_of p) ≡ true
unfolding whole_point
point_whole p = (Decides-int_eq (pos 1) (pos 1)).1 refl

point_is : (p : Point) → as_point (whole_of p) ≡ p
unfolding whole_point
point_is p = refl

-- The point is a whole vertex.
abbrev pub is_vertex_in : List Homogeneous → Point → Bool
is_vertex_in V p = is_point_among p (map as_point (filter is_whole V))

pub vertex_in : (V : List Homogeneous) (p : Point) → is_vertex_in V p ≡ true → whole_of p ∈ V
vertex_in V p e =
    let q = some_passes (is_same_point p) (map as_point (filter is_whole V)) e in
    let v = in_map as_point (filter is_whole V) q.0 q.1 in
    let k = in_filter is_whole V v.0 v.1 in
    subst (λ w. w ∈ V) (whole_is v.0 k.1 ∙ ap whole_of (sym v.2 ∙ sym (same_point_is p q.0 q.2))) k.0

pub in_vertex : (V : List Homogeneous) (p : Point) → whole_of p ∈ V → is_vertex_in V p ≡ true
in_vertex V p i =
    any_by (is_same_point p) (map as_point (filter is_whole V)) p
    (subst (λ q. q ∈ map as_point (filter is_whole V)) (point_is p) (map_in as_point (filter is_whole V) (whole_of p) (filter_in is_whole V (whole_of p) i (point_whole p)))) (same_itself p)

pub no_vertex_in : (V : List Homogeneous) (p : Point) → ¬ (whole_of p ∈ V) → is_vertex_in V p ≡ false
no_vertex_in V p n = by (is_vertex_in V p) refl
  where
    by : (t : Bool) → is_vertex_in V p ≡ t → t ≡ false
    by false e = refl
    by true e = absurd (n (vertex_in V p e))

all_points : (points : List Point) (v : Homogeneous) → v ∈ map whole_of points → is_whole v ≡ true
all_points points v i = let p = in_map whole_of points v i in ap is_whole p.2 ∙ point_whole p.0

pub all_whole : (points : List Point) → list_all is_whole (map whole_of points) ≡ true
all_whole points = all_by is_whole (map whole_of points) (all_points points)

pub some_fraction : (V : List Homogeneous) → HasWeight V → list_all is_whole V ≡ false
some_fraction V w = by (list_all is_whole V) refl
  where
    by : (t : Bool) → list_all is_whole V ≡ t → t ≡ false
    by false e = refl
    by true e = absurd (w.weight ((Decides-int_eq w.at.weight (pos 1)).0 (all_true is_whole V e w.at w.among)))

pub no_fraction : (V : List Homogeneous) → ¬ (HasWeight V) → list_all is_whole V ≡ true
no_fraction V n = all_by is_whole V each
  where
    each : (v : Homogeneous) → v ∈ V → is_whole v ≡ true
    each v i = by (is_whole v) refl
      where
        by : (t : Bool) → is_whole v ≡ t → t ≡ true
        by true e = refl
        by false e = absurd (n (record { at = v; among = i; weight = λ w. true≢false (sym ((Decides-int_eq v.weight (pos 1)).1 w) ∙ e) }))

-- Where vertices go. ----------------------------------------------------------------------------------------------------------------------

pick_is : (picks : List Point) (p : Point) → is_pick picks p ≡ is_point_among p picks
pick_is [] p = refl
pick_is (q ∷ picks) p = ap₂ (λ s t. s || t) (λ i. equal_back q.x p.x i && (equal_back q.y p.y i && equal_back q.z p.z i)) (pick_is picks p)

whole_goes : (shift : List ℤ) (picks : List Point) (p : Point) (w : Bool) → w ≡ true → cond (w && is_point_among p picks) (moved shift p) p ≡ place_of picks shift p
whole_goes shift picks p true e = ap (λ t. cond t (moved shift p) p) (sym (pick_is picks p))
whole_goes shift picks p false e = absurd (true≢false (sym e))

goes : (shift : List ℤ) (picks : List Point) (p : Point) → picked (vector_in shift) picks (whole_of p) ≡ place_of picks shift p
unfolding whole_point
goes shift picks p = whole_goes shift picks p (is_whole (whole_of p)) (point_whole p)

pub shifted_are : (shift : List ℤ) (picks points : List Point) →
    map (λ p. record { old = whole_of p; new = vector (place_of picks shift p) }) points ≡ carried (picked (vector_in shift) picks) (map whole_of points)
shifted_are shift picks [] = refl
shifted_are shift picks (p ∷ points) = ap₂ (λ (q : Point) l. record { old = whole_of p; new = vector q } ∷ l) (sym (goes shift picks p)) (shifted_are shift picks points)

pub destinations_are : (shift : List ℤ) (picks points : List Point) → map (picked (vector_in shift) picks) (map whole_of points) ≡ map (place_of picks shift) points
destinations_are shift picks [] = refl
destinations_are shift picks (p ∷ points) = ap₂ (λ (q : Point) l. q ∷ l) (goes shift picks p) (destinations_are shift picks points)

-- The first place at which a test passes. -------------------------------------------------------------------------------------------------

pub first_found : (test : Point → Bool) (k i : ℕ) (xs : List Point) → i < length xs → test (get_or xs i zero_point) ≡ true → ((j : ℕ) → j < i → test (get_or xs j zero_point) ≡ false) →
    first_place test k xs ≡ Some (i + k)
first_found test k i [] l e before = absurd (omega (arith, l))
first_found test k zero (x ∷ xs) l e before = ap (λ t. cond t (Some k) (first_place test (k + 1) xs)) e ∙ ap Some (let e : k ≡ 0 + k = omega arith in e)
first_found test k (suc i) (x ∷ xs) l e before =
    ap (λ t. cond t (Some k) (first_place test (k + 1) xs)) (before 0 (omega arith))
    ∙ first_found test (k + 1) i xs (omega (arith, l)) e (λ j m. before (suc j) (omega (arith, m)))
    ∙ ap Some (let e : i + (k + 1) ≡ suc i + k = omega arith in e)

pub none_found : (test : Point → Bool) (k : ℕ) (xs : List Point) → ((x : Point) → x ∈ xs → test x ≡ false) → first_place test k xs ≡ None
none_found test k [] h = refl
none_found test k (x ∷ xs) h = ap (λ t. cond t (Some k) (first_place test (k + 1) xs)) (h x here) ∙ none_found test (k + 1) xs (λ y i. h y (there i))

-- Where vertices go is in range. ----------------------------------------------------------------------------------------------------------

pub near_point : (p : Point) → InCube world (whole_of p) → IsTrue (is_in_range p)
unfolding whole_point
near_point p i =
    let l = i.left in let r = i.right in let n = i.near in let f = i.far in let b = i.bottom in let t = i.top in
    near_in_range p (record { x = omega (arith, ints); y = omega (arith, ints); z = omega (arith, ints) })

place_near : (shift : List ℤ) (picks : List Point) (p : Point) (b : Bool) → is_pick picks p ≡ b → Every (GoesInRange shift) picks → IsTrue (is_in_range p) → IsTrue (is_in_range (cond b (moved shift p) p))
place_near shift picks p true e r w =
    let q = some_passes (is_same_point p) picks (sym (pick_is picks p) ∙ e) in
    subst (GoesInRange shift) (sym (same_point_is p q.0 q.2)) (r q.0 q.1)
place_near shift picks p false e r w = w

pub goes_in_range : (shift : List ℤ) (picks points : List Point) → Every (GoesInRange shift) picks → ((p : Point) → p ∈ points → IsTrue (is_in_range p)) → (p : Point) → p ∈ map (place_of picks shift) points → IsTrue (is_in_range p)
goes_in_range shift picks points r w p i =
    let q = in_map (place_of picks shift) points p i in
    subst (λ x. IsTrue (is_in_range x)) (sym q.2) (place_near shift picks q.0 (is_pick picks q.0) refl r (w q.0 q.1))
