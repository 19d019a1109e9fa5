-- Coordinates in millionths.
use Rattle.std.proofs.Common.{◌≡◌, ℕ, ◌+◌, ◌*◌, ◌/◌, ◌%◌, ◌<◌, ◌≤◌, ◌^◌, Bool, true, false, refl, ap, sym, ◌∙◌, arith, inl, ℤ, pos, neg_ℤ, ◌-ℤ◌, ◌*ℤ◌, ◌<ℤ◌, ◌≤ℤ◌, unsigned_abs}
use Rattle.std.specs.Prelude.{int_lt}
use Rattle.std.proofs.lemmas.Int.{ints}
use Rattle.std.proofs.lemmas.Nat.{div-add-mod', mod_below}
use Rattle.std.proofs.Math.Nat.{le_of_mul-le-mul_right}
use Rattle.algebra.specs.Space.{Homogeneous}
use Rattle.exact_geom.specs.Machine.{IsHalfUp}
use Rattle.exact_geom.specs.Rounding.{IsNearest}
use Rattle.exact_geom.proofs.Nearest.{upright_answer, turned_answer}
use Rattle.fixed_num.specs.Count.{nearest}
use Rattle.fixed_num.specs.DecimalValue.{with_sign}
use Rattle.obj_export.specs.Text.{micro_of}
use Rattle.obj_export.specs.Adding.{AreNearest}

-- No coordinate in the world has more millionths.
pub small_count : (size weight q : ℕ) → 0 < weight → size ≤ 4096 * weight → q ≡ (2 * (size * 1000000) + weight) / (2 * weight) → q ≤ 4096000000
small_count size weight q p h e =
    let cut = div-add-mod' (2 * (size * 1000000) + weight) (2 * weight) in
    let f = ap (λ n. n * (2 * weight)) e in
    let k : (2 * q) * weight ≡ q * (2 * weight) = grind arith in
    let s : (2 * q) * weight ≤ 8192000001 * weight = omega arith in
    let m : 2 * q ≤ 8192000001 = le_of_mul-le-mul_right s p in omega arith

half_up_one : (a w : ℕ) → 0 < w → IsHalfUp a w 1 (nearest a w)
half_up_one a w p =
    let q = (2 * a + w) / (2 * w) in
    let cut : q * (2 * w) + (2 * a + w) % (2 * w) ≡ 2 * a + w = div-add-mod' (2 * a + w) (2 * w) in
    let rest : (2 * a + w) % (2 * w) < 2 * w = mod_below (2 * a + w) (2 * w) (omega arith) in
    let shape : 2 * (q * w) ≡ q * (2 * w) = grind arith in
    record { count = q; multiple = omega arith; low = omega arith; high = omega arith }

scaled_size : (x : ℤ) → unsigned_abs x * 1000000 ≡ unsigned_abs (x *ℤ pos 1000000)
scaled_size x = omega (arith, ints)

below : (x : ℤ) → int_lt x (pos 0) ≡ true → (x *ℤ pos 1000000) <ℤ pos 0
below x e = omega (arith, ints)

not_below : (x : ℤ) → int_lt x (pos 0) ≡ false → pos 0 ≤ℤ (x *ℤ pos 1000000)
not_below x e = omega (arith, ints)

some_weight : (w : ℤ) → pos 1 ≤ℤ w → 0 < unsigned_abs w
some_weight w h = omega (arith, ints)

near_by : (t : Bool) (w x : ℤ) → int_lt x (pos 0) ≡ t → pos 1 ≤ℤ w →
    IsNearest (pos 1) (x *ℤ pos 1000000) w (with_sign t (nearest (unsigned_abs x * 1000000) (unsigned_abs w)))
near_by true w x e h =
    turned_answer (pos 1) (x *ℤ pos 1000000) w _ (unsigned_abs x * 1000000) (unsigned_abs w) 1 _ (scaled_size x) refl refl (below x e) h (inl refl)
    (half_up_one (unsigned_abs x * 1000000) (unsigned_abs w) (some_weight w h)) refl
near_by false w x e h =
    upright_answer (pos 1) (x *ℤ pos 1000000) w _ (unsigned_abs x * 1000000) (unsigned_abs w) 1 _ (scaled_size x) refl refl (not_below x e) h (inl refl)
    (half_up_one (unsigned_abs x * 1000000) (unsigned_abs w) (some_weight w h)) refl

pub near : (w x : ℤ) → pos 1 ≤ℤ w → IsNearest (pos 1) (x *ℤ pos 1000000) w (micro_of w x)
near w x h = near_by (int_lt x (pos 0)) w x refl h

pub all_near : (p : Homogeneous) → pos 1 ≤ℤ p.weight → AreNearest p (micro_of p.weight p.vector.x) (micro_of p.weight p.vector.y) (micro_of p.weight p.vector.z)
all_near p h = record { x_nearest = near p.weight p.vector.x h; y_nearest = near p.weight p.vector.y h; z_nearest = near p.weight p.vector.z h }

-- The size of a coordinate in the world.
pub within : (w x : ℤ) → pos 1 ≤ℤ w → neg_ℤ (pos 4096 *ℤ w) ≤ℤ x → x ≤ℤ (pos 4096 *ℤ w) → unsigned_abs x ≤ 4096 * unsigned_abs w
within w x p h k = omega (arith, ints)
