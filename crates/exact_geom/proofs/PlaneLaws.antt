-- What the three points of a plane are known to be.
use Rattle.std.proofs.Common.{◌≡◌, ℕ, ◌≤◌, Bool, true, false, ◌&&◌, if◌then◌else◌, IsTrue, nat_le, Some, None, Ok, Err, refl, ap, ◌∙◌, arith, [], ◌∷◌, ℤ, pos, negsuc, ◌+ℤ◌, ◌*ℤ◌, neg_ℤ, ◌<ℤ◌, unsigned_abs, sym, subst}
use Rattle.std.proofs.lemmas.Bool.Decides.{nat_tests, Decides-int_eq}
use Rattle.std.proofs.lemmas.Int.{ints, by_lt_z}
use Rattle.std.specs.Option.{option_map_or}
use Rattle.std.specs.Ordering.{int_eq}
use Rattle.algebra.specs.Space.{Vector, HalfSpace, dot, cross, minus, scale, through, reverse}
use Rattle.algebra.proofs.Expr.{read}
use Rattle.algebra.proofs.Ring.{ring}
use Rattle.algebra.proofs.Identities.{through-swap}
use Rattle.algebra.proofs.Orders.{squares_zero_3}
use Rattle.exact_geom.specs.Limits.{difference_limit, dist_limit, normal_limit}
use Rattle.exact_geom.specs.declared.point.Point.{Point}
use Rattle.exact_geom.specs.declared.plane.PlaneFault.TheVariants.{PointRange, Flat}
use Rattle.exact_geom.specs.Machine.{IsSmall, IsWithin}
use Rattle.exact_geom.specs.Planes.{ThreePoints, vector, half_space, is_in_range, is_zero, is_flat, IsPlane}
use Rattle.exact_geom.proofs.Sizes.{IsWithin-minus, IsWithin-cross, size-dot}

-- ---- a point in range
all_three : (a b c : ℕ) → (nat_le a 4352 && nat_le b 4352 && nat_le c 4352) ≡ true → (a ≤ 4352) × (b ≤ 4352) × (c ≤ 4352)
all_three a b c h = (grind (arith, nat_tests), grind (arith, nat_tests), grind (arith, nat_tests))

pub in_range : (p : Point) → IsTrue (is_in_range p) → IsWithin 4352 (vector p)
in_range p h = let k = all_three (unsigned_abs p.x) (unsigned_abs p.y) (unsigned_abs p.z) h in record { x = k.0; y = k.1; z = k.2 }

-- ---- a plane's points
pub record GoodPoints (t : ThreePoints) : Type 0 where
  pub first : IsTrue (is_in_range t.p0)
  pub second : IsTrue (is_in_range t.p1)
  pub third : IsTrue (is_in_range t.p2)
  pub apart : is_flat t ≡ false

verdict : (a b c f : Bool) (t : ThreePoints) → option_map_or (λ k. Err (PointRange k)) (if a then if b then if c then None else Some 2 else Some 1 else Some 0) (if f then Err Flat else Ok t) ≡ Ok t → (a ≡ true) × (b ≡ true) × (c ≡ true) × (f ≡ false)
verdict true true true false t h = (refl, refl, refl, refl)
verdict true true true true t h = cc
verdict true true false f t h = cc
verdict true false c f t h = cc
verdict false b c f t h = cc

pub good_points : (t : ThreePoints) → IsPlane t → GoodPoints t
good_points t h =
    let k = verdict (is_in_range t.p0) (is_in_range t.p1) (is_in_range t.p2) (is_flat t) t h in
    record { first = k.0; second = k.1; third = k.2; apart = k.3 }

fit : (a b c f : Bool) (t : ThreePoints) → a ≡ true → b ≡ true → c ≡ true → f ≡ false → option_map_or (λ k. Err (PointRange k)) (if a then if b then if c then None else Some 2 else Some 1 else Some 0) (if f then Err Flat else Ok t) ≡ Ok t
fit true true true false t p q r s = refl
fit true true true true t p q r s = cc
fit true true false f t p q r s = cc
fit true false c f t p q r s = cc
fit false b c f t p q r s = cc

pub is_plane : (t : ThreePoints) → GoodPoints t → IsPlane t
is_plane t g = fit (is_in_range t.p0) (is_in_range t.p1) (is_in_range t.p2) (is_flat t) t g.first g.second g.third g.apart

-- ---- the sizes of its half-space
pub normal_size : (t : ThreePoints) → IsTrue (is_in_range t.p0) → IsTrue (is_in_range t.p1) → IsTrue (is_in_range t.p2) → IsWithin normal_limit (half_space t).normal
unfolding through
normal_size t a b c =
    IsWithin-cross (minus (vector t.p0) (vector t.p1)) (minus (vector t.p2) (vector t.p1)) difference_limit difference_limit
    (IsWithin-minus (vector t.p0) (vector t.p1) 4352 4352 (in_range t.p0 a) (in_range t.p1 b))
    (IsWithin-minus (vector t.p2) (vector t.p1) 4352 4352 (in_range t.p2 c) (in_range t.p1 b))

pub distance_size : (t : ThreePoints) → IsTrue (is_in_range t.p0) → IsTrue (is_in_range t.p1) → IsTrue (is_in_range t.p2) → unsigned_abs (half_space t).distance ≤ dist_limit
unfolding through
distance_size t a b c = size-dot (cross (minus (vector t.p0) (vector t.p1)) (minus (vector t.p2) (vector t.p1))) (vector t.p1) normal_limit 4352 (normal_size t a b c) (in_range t.p1 b)

-- ---- the zero vector
three_zero : (a b c : ℤ) → (int_eq a (pos 0) && int_eq b (pos 0) && int_eq c (pos 0)) ≡ true → (a ≡ pos 0) × (b ≡ pos 0) × (c ≡ pos 0)
three_zero a b c h = by (int_eq a (pos 0)) (int_eq b (pos 0)) (int_eq c (pos 0)) refl refl refl h
  where
    by : (p q r : Bool) → int_eq a (pos 0) ≡ p → int_eq b (pos 0) ≡ q → int_eq c (pos 0) ≡ r → (p && q && r) ≡ true → (a ≡ pos 0) × (b ≡ pos 0) × (c ≡ pos 0)
    by true true true e f g h = ((Decides-int_eq a (pos 0)).0 e, (Decides-int_eq b (pos 0)).0 f, (Decides-int_eq c (pos 0)).0 g)
    by true true false e f g h = cc
    by true false r e f g h = cc
    by false q r e f g h = cc

pub zero_vector : (v : Vector) → is_zero v ≡ true → (v.x ≡ pos 0) × (v.y ≡ pos 0) × (v.z ≡ pos 0)
zero_vector v h = three_zero v.x v.y v.z h

zero_of_parts : (a b c : ℤ) → a ≡ pos 0 → b ≡ pos 0 → c ≡ pos 0 → (int_eq a (pos 0) && int_eq b (pos 0) && int_eq c (pos 0)) ≡ true
zero_of_parts a b c p q r = ap (λ x. int_eq x (pos 0) && int_eq b (pos 0) && int_eq c (pos 0)) p ∙ ap (λ x. int_eq x (pos 0) && int_eq c (pos 0)) q ∙ ap (λ x. int_eq x (pos 0)) r

pub is_zero_of : (v : Vector) → v.x ≡ pos 0 → v.y ≡ pos 0 → v.z ≡ pos 0 → is_zero v ≡ true
is_zero_of v p q r = zero_of_parts v.x v.y v.z p q r

-- ---- reversed
neg_zero : (a : ℤ) → negsuc 0 *ℤ a ≡ pos 0 → a ≡ pos 0
neg_zero a h = let e : negsuc 0 *ℤ a ≡ neg_ℤ a = ring (a ∷ []) (search read depth 20) tt in omega (arith, ints)

is_zero_back : (h : HalfSpace) → is_zero (reverse h).normal ≡ true → is_zero h.normal ≡ true
unfolding reverse scale
is_zero_back h f =
    let k = zero_vector (reverse h).normal f in
    is_zero_of h.normal (neg_zero h.normal.x k.0) (neg_zero h.normal.y k.1) (neg_zero h.normal.z k.2)

-- the reversed normal is zero only where the normal is
pub is_zero-reverse : (h : HalfSpace) → is_zero h.normal ≡ false → is_zero (reverse h).normal ≡ false
is_zero-reverse h e = by (is_zero (reverse h).normal) refl
  where
    by : (r : Bool) → is_zero (reverse h).normal ≡ r → r ≡ false
    by false f = refl
    by true f = let g = is_zero_back h f in cc

pub is_plane-reverse : (t : ThreePoints) → IsPlane t → IsPlane (record { p0 = t.p2; p1 = t.p1; p2 = t.p0 })
is_plane-reverse t h =
    let g = good_points t h in
    let e = through-swap (vector t.p0) (vector t.p1) (vector t.p2) in
    is_plane (record { p0 = t.p2; p1 = t.p1; p2 = t.p0 }) (record {
      first = g.third;
      second = g.second;
      third = g.first;
      apart = ap (λ f. is_zero f.normal) e ∙ is_zero-reverse (half_space t) g.apart;
    })

-- ---- a normal that isn't zero
not_both : {b : Bool} → b ≡ false → b ≡ true → ⊥
not_both p q = cc

positive_unless : (v : Vector) → (is_zero v ≡ true → ⊥) → pos 0 <ℤ dot v v
unfolding dot
positive_unless v h =
    by_lt_z (pos 0) (v.x *ℤ v.x +ℤ v.y *ℤ v.y +ℤ v.z *ℤ v.z) (λ l. l) (λ l. let k = squares_zero_3 v.x v.y v.z l in absurd (h (is_zero_of v k.0 k.1 k.2)))

pub normal_positive : (t : ThreePoints) → IsPlane t → pos 0 <ℤ dot (half_space t).normal (half_space t).normal
normal_positive t h =
    let g = good_points t h in
    positive_unless (half_space t).normal (λ e. not_both g.apart e)

-- ---- the half-space of a plane is small
pub is_small : (t : ThreePoints) → IsPlane t → IsSmall (half_space t)
is_small t h =
    let g = good_points t h in
    record { normal = normal_size t g.first g.second g.third; distance = distance_size t g.first g.second g.third }

pub IsSmall_at : {g h : HalfSpace} → g ≡ h → IsSmall h → IsSmall g
IsSmall_at e s = subst IsSmall (sym e) s
