-- Lists of three numbers in machine words, and what a row takes of them.
use Rattle.std.proofs.Common.{◌≡◌, ℕ, ◌<◌, ◌≤◌, ◌^◌, List, [], ◌∷◌, All, get_or, length, refl, ap, ◌∙◌, arith, ℤ, pos, negsuc, ◌+ℤ◌, ◌-ℤ◌, ◌*ℤ◌, unsigned_abs, to_z, of_z, w64, ◌&&◌, true, nat_le}
use Rattle.std.proofs.lemmas.Bool.Decides.{nat_tests}
use Rattle.std.proofs.lemmas.Int.{ints, to_z-of_z, fits_signed_from_abs}
use Rattle.std.proofs.lemmas.List.Elements.{All-get_or}
use Rattle.algebra.specs.Space.{Vector}
use Rattle.algebra.proofs.Expr.{read}
use Rattle.algebra.proofs.Ring.{ring}
use Rattle.exact_geom.specs.Machine.{IsWithin}
use Rattle.exact_geom.specs.Planes.{parts}
use Rattle.orient48.specs.Kept.{vector_in}
use Rattle.orient48.specs.Motions.{is_short}

pub part_below : (v : List ℤ) (n i : ℕ) → length v ≡ 3 → i < 3 → All (λ x. unsigned_abs x < n) v → unsigned_abs (get_or v i (pos 0)) < n
part_below v n i len h all = All-get_or (λ x. unsigned_abs x < n) v i (pos 0) (omega (arith, len)) all

pub kept : (x : ℤ) → unsigned_abs x < 2 ^ 63 → to_z w64 (of_z w64 x) ≡ x
kept x h = to_z-of_z w64 x (fits_signed_from_abs w64 x h)

minus_one : (x : ℤ) → pos 0 -ℤ x ≡ negsuc 0 *ℤ x
minus_one x = ring (x ∷ []) (search read depth 20) tt

minus_below : (x : ℤ) (n : ℕ) → unsigned_abs x < n → unsigned_abs (pos 0 -ℤ x) < n
minus_below x n h = omega (arith, ints)

pub kept_minus : (x : ℤ) → unsigned_abs x < 2 ^ 63 → to_z w64 (of_z w64 (pos 0 -ℤ to_z w64 (of_z w64 x))) ≡ negsuc 0 *ℤ x
kept_minus x h = ap (λ y. to_z w64 (of_z w64 (pos 0 -ℤ y))) (kept x h) ∙ kept (pos 0 -ℤ x) (minus_below x (2 ^ 63) h) ∙ minus_one x

pub once : (x : ℤ) → x ≡ pos 1 *ℤ x
once x = ring (x ∷ []) (search read depth 20) tt

pub takes_x : (s a b c : ℤ) → s *ℤ a ≡ s *ℤ a +ℤ pos 0 *ℤ b +ℤ pos 0 *ℤ c
takes_x s a b c = ring (s ∷ a ∷ b ∷ c ∷ []) (search read depth 20) tt

pub takes_y : (s a b c : ℤ) → s *ℤ b ≡ pos 0 *ℤ a +ℤ s *ℤ b +ℤ pos 0 *ℤ c
takes_y s a b c = ring (s ∷ a ∷ b ∷ c ∷ []) (search read depth 20) tt

pub takes_z : (s a b c : ℤ) → s *ℤ c ≡ pos 0 *ℤ a +ℤ pos 0 *ℤ b +ℤ s *ℤ c
takes_z s a b c = ring (s ∷ a ∷ b ∷ c ∷ []) (search read depth 20) tt

-- ---- shifts
three_near : (a b c : ℕ) → (nat_le a 1000000 && (nat_le b 1000000 && nat_le c 1000000)) ≡ true → (a ≤ 1000000) × (b ≤ 1000000) × (c ≤ 1000000)
three_near a b c h = (grind (arith, nat_tests), grind (arith, nat_tests), grind (arith, nat_tests))

near_three : (a b c : ℕ) → a ≤ 1000000 → b ≤ 1000000 → c ≤ 1000000 → (nat_le a 1000000 && (nat_le b 1000000 && nat_le c 1000000)) ≡ true
near_three a b c h k l = grind (arith, nat_tests)

pub within_short : (v : Vector) → is_short v ≡ true → IsWithin 1000000 v
within_short v h = let k = three_near (unsigned_abs v.x) (unsigned_abs v.y) (unsigned_abs v.z) h in record { x = k.0; y = k.1; z = k.2 }

pub short_within : (v : Vector) → IsWithin 1000000 v → is_short v ≡ true
short_within v h = near_three (unsigned_abs v.x) (unsigned_abs v.y) (unsigned_abs v.z) h.x h.y h.z

pub three_parts : (v : List ℤ) → length v ≡ 3 → v ≡ parts (vector_in v)
three_parts (a ∷ b ∷ c ∷ []) e = refl
three_parts [] e = absurd (omega (arith, e))
three_parts (a ∷ []) e = absurd (omega (arith, e))
three_parts (a ∷ b ∷ []) e = absurd (omega (arith, e))
three_parts (a ∷ b ∷ c ∷ d ∷ v) e = absurd (omega (arith, e))
