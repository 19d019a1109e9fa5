-- The corners of the cube, by the walls that they lie on.
use Rattle.std.proofs.Common.{◌≡◌, ℕ, zero, suc, ◌+◌, ◌/◌, ◌%◌, ◌<◌, ◌≤◌, lit<, get_or, Option, Some, None, IsNone, IfSome, refl, ap, arith, ℤ, pos, negsuc, ◌+ℤ◌, ◌-ℤ◌, ◌*ℤ◌, ◌<ℤ◌, ◌≤ℤ◌}
use Rattle.std.proofs.lemmas.Int.{ints}
use Rattle.std.specs.Int.{◌∣◌}
use Rattle.std.proofs.lemmas.Nat.Gcd.{le_of_dvd}
use Rattle.std.proofs.Math.Nat.{eq-zero_of_zero-dvd}
use Rattle.algebra.specs.Space.{Homogeneous, SamePoint, side, dot, cross, minus, through, det}
use Rattle.exact_geom.specs.Planes.{ThreePoints, half_space}
use Rattle.exact_geom.specs.Vertices.{IsVertexOf, IsReduced}
use Rattle.exact_geom.proofs.Unique.{one_form}
use Rattle.cube_laws.specs.CubeLinks.{corner, corners, centre}
use Rattle.half_poly.specs.Walls.{wall_at}

abbrev On : ℕ → Homogeneous → Type 0
On k p = side (half_space (wall_at k)) p ≡ pos 0

on_0 : (p : Homogeneous) → On 0 p → p.vector.x *ℤ pos 1 ≡ pos 4352 *ℤ p.weight
unfolding side dot through cross minus
on_0 p h = let e : pos 1 *ℤ p.vector.x +ℤ pos 0 *ℤ p.vector.y +ℤ pos 0 *ℤ p.vector.z -ℤ pos 4352 *ℤ p.weight ≡ pos 0 = h in omega (arith, ints)

on_1 : (p : Homogeneous) → On 1 p → p.vector.x *ℤ pos 1 ≡ negsuc 4351 *ℤ p.weight
unfolding side dot through cross minus
on_1 p h = let e : negsuc 0 *ℤ p.vector.x +ℤ pos 0 *ℤ p.vector.y +ℤ pos 0 *ℤ p.vector.z -ℤ pos 4352 *ℤ p.weight ≡ pos 0 = h in omega (arith, ints)

on_2 : (p : Homogeneous) → On 2 p → p.vector.y *ℤ pos 1 ≡ pos 4352 *ℤ p.weight
unfolding side dot through cross minus
on_2 p h = let e : pos 0 *ℤ p.vector.x +ℤ pos 1 *ℤ p.vector.y +ℤ pos 0 *ℤ p.vector.z -ℤ pos 4352 *ℤ p.weight ≡ pos 0 = h in omega (arith, ints)

on_3 : (p : Homogeneous) → On 3 p → p.vector.y *ℤ pos 1 ≡ negsuc 4351 *ℤ p.weight
unfolding side dot through cross minus
on_3 p h = let e : pos 0 *ℤ p.vector.x +ℤ negsuc 0 *ℤ p.vector.y +ℤ pos 0 *ℤ p.vector.z -ℤ pos 4352 *ℤ p.weight ≡ pos 0 = h in omega (arith, ints)

on_4 : (p : Homogeneous) → On 4 p → p.vector.z *ℤ pos 1 ≡ pos 4352 *ℤ p.weight
unfolding side dot through cross minus
on_4 p h = let e : pos 0 *ℤ p.vector.x +ℤ pos 0 *ℤ p.vector.y +ℤ pos 1 *ℤ p.vector.z -ℤ pos 4352 *ℤ p.weight ≡ pos 0 = h in omega (arith, ints)

on_5 : (p : Homogeneous) → On 5 p → p.vector.z *ℤ pos 1 ≡ negsuc 4351 *ℤ p.weight
unfolding side dot through cross minus
on_5 p h = let e : pos 0 *ℤ p.vector.x +ℤ pos 0 *ℤ p.vector.y +ℤ negsuc 0 *ℤ p.vector.z -ℤ pos 4352 *ℤ p.weight ≡ pos 0 = h in omega (arith, ints)

one_only : (k : ℕ) → k ∣ 1 → k ≡ 1
one_only zero h = let e = eq-zero_of_zero-dvd h in absurd (omega arith)
one_only (suc k) h = let l : suc k ≤ 1 = le_of_dvd (lit< tt) h in omega arith

corner_reduced : (x y z : ℤ) → IsReduced (corner x y z)
corner_reduced x y z = λ d a b c w. one_only d w

positive : {w : ℤ} → pos 1 ≤ℤ w → pos 0 <ℤ w
positive {w} h = omega (arith, ints)

-- What three planes share is this corner.
abbrev Meets : (A B C : ThreePoints) → Option Homogeneous → Homogeneous → Type 0
Meets A B C r v = (IsNone r → det (half_space A).normal (half_space B).normal (half_space C).normal ≡ pos 0) → IfSome r (IsVertexOf A B C) → r ≡ Some v

meets : (A B C : ThreePoints) (x y z : ℤ) → ¬ (det (half_space A).normal (half_space B).normal (half_space C).normal ≡ pos 0) →
    ((p : Homogeneous) → side (half_space A) p ≡ pos 0 → side (half_space B) p ≡ pos 0 → side (half_space C) p ≡ pos 0 → SamePoint p (corner x y z)) →
    (r : Option Homogeneous) → Meets A B C r (corner x y z)
meets A B C x y z n f None = λ d s. absurd (n (d refl))
meets A B C x y z n f (Some p) = λ d v. ap (λ (q : Homogeneous). Some q) (one_form p (corner x y z) (positive v.vertex.positive) (omega (arith, ints)) v.vertex.reduced (corner_reduced x y z) (f p v.on_first v.on_second v.on_third))

by_8 : (P : ℕ → Type 0) → P 0 → P 1 → P 2 → P 3 → P 4 → P 5 → P 6 → P 7 → (n : ℕ) → n < 8 → P n
by_8 P a b c d e f g h zero l = a
by_8 P a b c d e f g h (suc zero) l = b
by_8 P a b c d e f g h (suc (suc zero)) l = c
by_8 P a b c d e f g h (suc (suc (suc zero))) l = d
by_8 P a b c d e f g h (suc (suc (suc (suc zero)))) l = e
by_8 P a b c d e f g h (suc (suc (suc (suc (suc zero))))) l = f
by_8 P a b c d e f g h (suc (suc (suc (suc (suc (suc zero)))))) l = g
by_8 P a b c d e f g h (suc (suc (suc (suc (suc (suc (suc zero))))))) l = h
by_8 P a b c d e f g h (suc (suc (suc (suc (suc (suc (suc (suc n)))))))) l = absurd (omega arith)

abbrev IsCorner : ℕ → Type 0
IsCorner n = (r : Option Homogeneous) → Meets (wall_at (n / 4 % 2)) (wall_at (2 + n / 2 % 2)) (wall_at (4 + n % 2)) r (get_or corners n centre)

corner_0 : IsCorner 0
unfolding dot through cross minus det
corner_0 = meets (wall_at 0) (wall_at 2) (wall_at 4) (pos 4352) (pos 4352) (pos 4352) (λ e. let k : pos 1 ≡ pos 0 = e in absurd (omega (arith, ints))) (λ p f g h. record { x = on_0 p f; y = on_2 p g; z = on_4 p h })

corner_1 : IsCorner 1
unfolding dot through cross minus det
corner_1 = meets (wall_at 0) (wall_at 2) (wall_at 5) (pos 4352) (pos 4352) (negsuc 4351) (λ e. let k : negsuc 0 ≡ pos 0 = e in absurd (omega (arith, ints))) (λ p f g h. record { x = on_0 p f; y = on_2 p g; z = on_5 p h })

corner_2 : IsCorner 2
unfolding dot through cross minus det
corner_2 = meets (wall_at 0) (wall_at 3) (wall_at 4) (pos 4352) (negsuc 4351) (pos 4352) (λ e. let k : negsuc 0 ≡ pos 0 = e in absurd (omega (arith, ints))) (λ p f g h. record { x = on_0 p f; y = on_3 p g; z = on_4 p h })

corner_3 : IsCorner 3
unfolding dot through cross minus det
corner_3 = meets (wall_at 0) (wall_at 3) (wall_at 5) (pos 4352) (negsuc 4351) (negsuc 4351) (λ e. let k : pos 1 ≡ pos 0 = e in absurd (omega (arith, ints))) (λ p f g h. record { x = on_0 p f; y = on_3 p g; z = on_5 p h })

corner_4 : IsCorner 4
unfolding dot through cross minus det
corner_4 = meets (wall_at 1) (wall_at 2) (wall_at 4) (negsuc 4351) (pos 4352) (pos 4352) (λ e. let k : negsuc 0 ≡ pos 0 = e in absurd (omega (arith, ints))) (λ p f g h. record { x = on_1 p f; y = on_2 p g; z = on_4 p h })

corner_5 : IsCorner 5
unfolding dot through cross minus det
corner_5 = meets (wall_at 1) (wall_at 2) (wall_at 5) (negsuc 4351) (pos 4352) (negsuc 4351) (λ e. let k : pos 1 ≡ pos 0 = e in absurd (omega (arith, ints))) (λ p f g h. record { x = on_1 p f; y = on_2 p g; z = on_5 p h })

corner_6 : IsCorner 6
unfolding dot through cross minus det
corner_6 = meets (wall_at 1) (wall_at 3) (wall_at 4) (negsuc 4351) (negsuc 4351) (pos 4352) (λ e. let k : pos 1 ≡ pos 0 = e in absurd (omega (arith, ints))) (λ p f g h. record { x = on_1 p f; y = on_3 p g; z = on_4 p h })

corner_7 : IsCorner 7
unfolding dot through cross minus det
corner_7 = meets (wall_at 1) (wall_at 3) (wall_at 5) (negsuc 4351) (negsuc 4351) (negsuc 4351) (λ e. let k : negsuc 0 ≡ pos 0 = e in absurd (omega (arith, ints))) (λ p f g h. record { x = on_1 p f; y = on_3 p g; z = on_5 p h })

pub corner_is : (n : ℕ) (A B C : ThreePoints) (r : Option Homogeneous) → n < 8 → A ≡ wall_at (n / 4 % 2) → B ≡ wall_at (2 + n / 2 % 2) → C ≡ wall_at (4 + n % 2) → Meets A B C r (get_or corners n centre)
corner_is n A B C r l q m i = rw (q, m, i) (by_8 IsCorner corner_0 corner_1 corner_2 corner_3 corner_4 corner_5 corner_6 corner_7 n l r)
