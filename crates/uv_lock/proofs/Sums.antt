-- Sums and products of texture counts in 128 bits, and turned axes in 64.
use Rattle.std.proofs.Common.{◌≡◌, ◌∙◌, ◌≤◌, ◌<◌, ◌*◌, ◌^◌, List, get_or, length, true, sym, ap, subst, refl, arith, ℕ, ℤ, pos, ◌+ℤ◌, ◌-ℤ◌, ◌*ℤ◌, unsigned_abs, to_z, of_z, w64}
use Rattle.std.specs.Int.{w128}
use Rattle.std.proofs.lemmas.Int.{to_z-of_z, fits_signed_from_abs}
use Rattle.std.proofs.lemmas.List.{get_or_read}
use Rattle.algebra.specs.Space.{Vector}
use Rattle.algebra.proofs.Wide.{sizes, exactly, at_most, argument, called}
use Rattle.exact_geom.specs.Machine.{IsWithin}
use Rattle.exact_geom.specs.Planes.{parts}
use Rattle.orient48.specs.Motions.{Matrix, turned, is_signed_permutation, vector_at}
use Rattle.orient48.proofs.Units.{turned_size}

-- an element that was read from a list that is long enough
pub read_at : (l : List ℤ) (i : ℕ) (x : ℤ) → i < length l → x ≡ get_or l i x → get_or l i x ≡ get_or l i (pos 0)
read_at l i x b h = sym h ∙ get_or_read l i x b h (pos 0)

-- ---- 128 bits
abbrev pub wide : ℤ → ℤ
wide z = to_z w128 (of_z w128 z)

pub difference_is : (o a : ℤ) {x y : ℤ} → o ≡ x → unsigned_abs o ≤ 10 ^ 33 → a ≡ y → unsigned_abs a ≤ 3 * 10 ^ 21 →
    wide (wide o -ℤ wide (pos 1000000000000 *ℤ wide a)) ≡ x -ℤ pos 1000000000000 *ℤ y
difference_is o a e h f k = let p = called (10 ^ 33) e h in let q = called (3 * 10 ^ 21) f k in exactly (search sizes depth 20) tt

pub difference_size : (o a : ℤ) → unsigned_abs o ≤ 10 ^ 33 → unsigned_abs a ≤ 3 * 10 ^ 21 → unsigned_abs (wide (wide o -ℤ wide (pos 1000000000000 *ℤ wide a))) ≤ 10 ^ 34
difference_size o a h k =
    let p = called (10 ^ 33) (let e : o ≡ o = refl in e) h in let q = called (3 * 10 ^ 21) (let e : a ≡ a = refl in e) k in
    at_most (difference_is o a refl h refl k) (search sizes depth 20) tt

pub texels_is : (o a : ℤ) {x y : ℤ} → o ≡ x → unsigned_abs o ≤ 10 ^ 33 → a ≡ y → unsigned_abs a ≤ 3 * 10 ^ 21 →
    wide (wide (wide a *ℤ pos 1000000000000) +ℤ wide o) ≡ y *ℤ pos 1000000000000 +ℤ x
texels_is o a e h f k = let p = called (10 ^ 33) e h in let q = called (3 * 10 ^ 21) f k in exactly (search sizes depth 20) tt

pub texels_size : (o a : ℤ) → unsigned_abs o ≤ 10 ^ 33 → unsigned_abs a ≤ 3 * 10 ^ 21 → unsigned_abs (wide (wide (wide a *ℤ pos 1000000000000) +ℤ wide o)) ≤ 10 ^ 34
texels_size o a h k =
    let p = called (10 ^ 33) (let e : o ≡ o = refl in e) h in let q = called (3 * 10 ^ 21) (let e : a ≡ a = refl in e) k in
    at_most (texels_is o a refl h refl k) (search sizes depth 20) tt

pub scale_is : (s : ℤ) {x : ℤ} → s ≡ x → unsigned_abs s ≤ 10 ^ 15 → wide s ≡ x
scale_is s e h = let p = called (10 ^ 15) e h in exactly (search sizes depth 20) tt

pub unit_is : (s : ℤ) {x : ℤ} → s ≡ x → unsigned_abs s ≤ 10 ^ 15 → wide (wide s *ℤ pos 1000000000000) ≡ x *ℤ pos 1000000000000
unit_is s e h = let p = called (10 ^ 15) e h in exactly (search sizes depth 20) tt

-- ---- a turned axis keeps its limit
below_size : (z : ℤ) → unsigned_abs z ≤ 999999999999999 → unsigned_abs (to_z w64 (of_z w64 z)) < 10 ^ 15
below_size z h = let e = ap unsigned_abs (to_z-of_z w64 z (fits_signed_from_abs w64 z (omega arith))) in omega arith

at_most_less : (z : ℤ) → unsigned_abs z < 10 ^ 15 → unsigned_abs (to_z w64 (of_z w64 z)) ≤ 999999999999999
at_most_less z h = let e = ap unsigned_abs (to_z-of_z w64 z (fits_signed_from_abs w64 z (omega arith))) in omega arith

pub record IsKept (l : List ℤ) : Type 0 where
  pub x : unsigned_abs (to_z w64 (of_z w64 (get_or l 0 (pos 0)))) < 10 ^ 15
  pub y : unsigned_abs (to_z w64 (of_z w64 (get_or l 1 (pos 0)))) < 10 ^ 15
  pub z : unsigned_abs (to_z w64 (of_z w64 (get_or l 2 (pos 0)))) < 10 ^ 15

kept_parts : (v : Vector) → IsWithin 999999999999999 v → IsKept (parts v)
kept_parts v h = record { x = below_size v.x h.x; y = below_size v.y h.y; z = below_size v.z h.z }

pub turned_kept : (m : Matrix) (l : List ℤ) (a b c : ℤ) → is_signed_permutation m ≡ true → unsigned_abs a < 10 ^ 15 → unsigned_abs b < 10 ^ 15 → unsigned_abs c < 10 ^ 15 →
    l ≡ parts (turned m (vector_at (to_z w64 (of_z w64 a)) (to_z w64 (of_z w64 b)) (to_z w64 (of_z w64 c)))) → IsKept l
turned_kept m l a b c s h i j e =
    let v = vector_at (to_z w64 (of_z w64 a)) (to_z w64 (of_z w64 b)) (to_z w64 (of_z w64 c)) in
    subst IsKept (sym e) (kept_parts (turned m v) (turned_size m v 999999999999999 s (record { x = at_most_less a h; y = at_most_less b i; z = at_most_less c j })))

-- a count that is narrowed to 64 bits
pub narrowed : (z : ℤ) → unsigned_abs z < 10 ^ 18 → to_z w64 (of_z w64 (wide z)) ≡ z
narrowed z h = let p = argument z (10 ^ 18) (omega arith) in exactly (search sizes depth 20) tt
