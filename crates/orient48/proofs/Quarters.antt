-- Quarter turns, up to three.
use Rattle.std.proofs.Common.{◌≡◌, ℕ, zero, suc, ◌≤◌, [], ◌∷◌, get_or, refl, arith}
use Rattle.algebra.specs.Space.{dot}
use Rattle.exact_geom.specs.declared.axis.Axis.TheVariants.{X, Y, Z}
use Rattle.orient48.specs.Motions.{quarters}
use Rattle.orient48.specs.Orients.{matrix_of}

up_to_three : (P : ℕ → Type 0) → P 0 → P 1 → P 2 → P 3 → (n : ℕ) → n ≤ 3 → P n
up_to_three P a b c d zero h = a
up_to_three P a b c d (suc zero) h = b
up_to_three P a b c d (suc (suc zero)) h = c
up_to_three P a b c d (suc (suc (suc zero))) h = d
up_to_three P a b c d (suc (suc (suc (suc n)))) h = absurd (omega arith)

pub turned_x : (n : ℕ) → n ≤ 3 → matrix_of (get_or (0 ∷ 10 ∷ 6 ∷ 12 ∷ []) n 0) ≡ quarters X n
unfolding dot
turned_x n h = up_to_three (λ n. matrix_of (get_or (0 ∷ 10 ∷ 6 ∷ 12 ∷ []) n 0) ≡ quarters X n) refl refl refl refl n h

pub turned_y : (n : ℕ) → n ≤ 3 → matrix_of (get_or (0 ∷ 44 ∷ 5 ∷ 41 ∷ []) n 0) ≡ quarters Y n
unfolding dot
turned_y n h = up_to_three (λ n. matrix_of (get_or (0 ∷ 44 ∷ 5 ∷ 41 ∷ []) n 0) ≡ quarters Y n) refl refl refl refl n h

pub turned_z : (n : ℕ) → n ≤ 3 → matrix_of (get_or (0 ∷ 17 ∷ 3 ∷ 18 ∷ []) n 0) ≡ quarters Z n
unfolding dot
turned_z n h = up_to_three (λ n. matrix_of (get_or (0 ∷ 17 ∷ 3 ∷ 18 ∷ []) n 0) ≡ quarters Z n) refl refl refl refl n h
