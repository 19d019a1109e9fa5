-- The shift of a turn about a point, in machine words.
use Rattle.std.proofs.Common.{◌≡◌, ℕ, zero, suc, ◌≤◌, List, [], ◌∷◌, true, ℤ, pos, ◌+ℤ◌, ◌-ℤ◌, unsigned_abs, slice_index_or, get_or, to_z, of_z, w32, w64, arith, ap, ◌∙◌, subst, refl}
use Rattle.std.specs.List.{AllByRecursion}
use Rattle.std.proofs.lemmas.Int.{ints}
use Rattle.algebra.specs.Space.{Vector, minus}
use Rattle.algebra.proofs.Identities.{vector_by}
use Rattle.exact_geom.specs.declared.axis.Axis.{Axis}
use Rattle.exact_geom.specs.declared.axis.Axis.TheVariants.{X, Y, Z}
use Rattle.exact_geom.specs.Machine.{IsWithin}
use Rattle.exact_geom.specs.Planes.{parts}
use Rattle.exact_geom.proofs.Exactly.{var, call, sum, size_of}
use Rattle.exact_geom.proofs.Sizes.{size-sub, size-add}
use Rattle.orient48.specs.Kept.{vector_in}
use Rattle.orient48.specs.Motions.{Matrix, turned, is_short, is_signed_permutation, along}
use Rattle.orient48.proofs.Parts.{short_within}
use Rattle.orient48.proofs.Units.{turned_size}
use Rattle.cmd_text.specs.Kept.{IsCoordinate, IsPoint}

part_near : (l : List ℤ) (i : ℕ) → AllByRecursion IsCoordinate l → unsigned_abs (slice_index_or l i (pos 0)) ≤ 4352
part_near [] i h = omega arith
part_near (x ∷ xs) zero h = let a = h.0 in omega arith
part_near (x ∷ xs) (suc i) h = part_near xs i h.1

-- The coordinates of a point are within the range.
pub near : (l : List ℤ) → IsPoint l → IsWithin 4352 (vector_in l)
near l h = record { x = part_near l 0 h; y = part_near l 1 h; z = part_near l 2 h }

-- The list is the turned vector.
pub record IsTurned (m : Matrix) (v : Vector) (l : List ℤ) : Type 0 where
  pub is : l ≡ parts (turned m v)
  pub within : IsWithin 4352 (turned m v)

pub is_turned : (m : Matrix) (point l : List ℤ) (x y z : ℤ) → IsPoint point → is_signed_permutation m ≡ true →
    x ≡ to_z w32 (of_z w32 (slice_index_or point 0 (pos 0))) → y ≡ to_z w32 (of_z w32 (slice_index_or point 1 (pos 0))) → z ≡ to_z w32 (of_z w32 (slice_index_or point 2 (pos 0))) →
    l ≡ parts (turned m (record { x = to_z w64 (of_z w64 x); y = to_z w64 (of_z w64 y); z = to_z w64 (of_z w64 z) })) → IsTurned m (vector_in point) l
is_turned m point l x y z h signed ex ey ez e =
    let v = vector_in point in
    let s = near point h in
    let wide = vector_by (call w64 x v.x (ex ∙ (var w32 v.x s.x tt).is) s.x tt).is
    (call w64 y v.y (ey ∙ (var w32 v.y s.y tt).is) s.y tt).is
    (call w64 z v.z (ez ∙ (var w32 v.z s.z tt).is) s.z tt).is in
    record { is = e ∙ ap (λ u. parts (turned m u)) wide; within = turned_size m v 4352 signed s }

module _ (m : Matrix) (v : Vector) (l : List ℤ) (t : IsTurned m v l) where
  pub near_x : unsigned_abs (to_z w64 (of_z w64 (get_or l 0 (pos 0)))) ≤ 4352
  near_x = size_of (call w64 (get_or l 0 (pos 0)) (turned m v).x (ap (λ k. get_or k 0 (pos 0)) t.is) t.within.x tt)

  pub near_y : unsigned_abs (to_z w64 (of_z w64 (get_or l 1 (pos 0)))) ≤ 4352
  near_y = size_of (call w64 (get_or l 1 (pos 0)) (turned m v).y (ap (λ k. get_or k 1 (pos 0)) t.is) t.within.y tt)

  pub near_z : unsigned_abs (to_z w64 (of_z w64 (get_or l 2 (pos 0)))) ≤ 4352
  near_z = size_of (call w64 (get_or l 2 (pos 0)) (turned m v).z (ap (λ k. get_or k 2 (pos 0)) t.is) t.within.z tt)

pub near_part : (z : ℤ) → unsigned_abs z ≤ 4352 → unsigned_abs (to_z w32 (of_z w32 z)) ≤ 4352
near_part z h = size_of (var w32 z h tt)

one : (r a b p q : ℤ) → r ≡ to_z w32 (of_z w32 p) -ℤ to_z w64 (of_z w64 q) → p ≡ a → q ≡ b → unsigned_abs a ≤ 4352 → unsigned_abs b ≤ 4352 → to_z w32 (of_z w32 r) ≡ a -ℤ b
one r a b p q e ep eq ha hb =
    (call w32 r (a -ℤ b)
    (e ∙ (λ i. (call w32 p a ep ha tt).is i -ℤ (call w64 q b eq hb tt).is i)) (size-sub a b 4352 4352 ha hb) tt).is

-- Three differences are the shift.
pub way_is : (m : Matrix) (point l : List ℤ) (x y z : ℤ) → IsPoint point → IsTurned m (vector_in point) l →
    x ≡ to_z w32 (of_z w32 (get_or point 0 (pos 0))) -ℤ to_z w64 (of_z w64 (get_or l 0 (pos 0))) →
    y ≡ to_z w32 (of_z w32 (get_or point 1 (pos 0))) -ℤ to_z w64 (of_z w64 (get_or l 1 (pos 0))) →
    z ≡ to_z w32 (of_z w32 (get_or point 2 (pos 0))) -ℤ to_z w64 (of_z w64 (get_or l 2 (pos 0))) →
    record { x = to_z w32 (of_z w32 x); y = to_z w32 (of_z w32 y); z = to_z w32 (of_z w32 z) } ≡ minus (vector_in point) (turned m (vector_in point))
unfolding minus
way_is m point l x y z h t ex ey ez =
    let v = vector_in point in
    let s = near point h in
    vector_by
    (one x v.x (turned m v).x (get_or point 0 (pos 0)) (get_or l 0 (pos 0)) ex refl (ap (λ k. get_or k 0 (pos 0)) t.is) s.x t.within.x)
    (one y v.y (turned m v).y (get_or point 1 (pos 0)) (get_or l 1 (pos 0)) ey refl (ap (λ k. get_or k 1 (pos 0)) t.is) s.y t.within.y)
    (one z v.z (turned m v).z (get_or point 2 (pos 0)) (get_or l 2 (pos 0)) ez refl (ap (λ k. get_or k 2 (pos 0)) t.is) s.z t.within.z)

-- It is short.
pub way_short : (m : Matrix) (point l : List ℤ) → IsPoint point → IsTurned m (vector_in point) l → is_short (minus (vector_in point) (turned m (vector_in point))) ≡ true
unfolding minus
way_short m point l h t =
    let v = vector_in point in
    let s = near point h in
    short_within (minus v (turned m v)) (record {
      x = wider (v.x -ℤ (turned m v).x) (size-sub v.x (turned m v).x 4352 4352 s.x t.within.x);
      y = wider (v.y -ℤ (turned m v).y) (size-sub v.y (turned m v).y 4352 4352 s.y t.within.y);
      z = wider (v.z -ℤ (turned m v).z) (size-sub v.z (turned m v).z 4352 4352 s.z t.within.z);
    })
  where
    wider : (a : ℤ) → unsigned_abs a ≤ 8704 → unsigned_abs a ≤ 1000000
    wider a h = omega (arith, h)

-- A shift along an axis.
pub twice : (place : ℤ) → IsCoordinate place → to_z w32 (of_z w32 (to_z w32 (of_z w32 place) +ℤ to_z w32 (of_z w32 place))) ≡ place +ℤ place
twice place h = (sum (var w32 place h tt) (var w32 place h tt) tt).is

short_along : (axis : Axis) (z : ℤ) → unsigned_abs z ≤ 1000000 → is_short (along axis z) ≡ true
short_along X z h = short_within (along X z) (record { x = h; y = omega arith; z = omega arith })
short_along Y z h = short_within (along Y z) (record { x = omega arith; y = h; z = omega arith })
short_along Z z h = short_within (along Z z) (record { x = omega arith; y = omega arith; z = h })

pub short_twice : (axis : Axis) (place : ℤ) → IsCoordinate place → is_short (along axis (place +ℤ place)) ≡ true
short_twice axis place h =
    let wide = size-add place place 4352 4352 h h in
    short_along axis (place +ℤ place) (omega (arith, wide))
