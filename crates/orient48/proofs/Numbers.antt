-- Each number below 48 is a signed permutation, and each signed permutation has one number.
use Rattle.std.proofs.Common.{◌≡◌, ◌≢◌, ℕ, zero, suc, ◌+◌, ◌<◌, ◌==◌, Bool, true, false, ◌&&◌, ◌||◌, not, refl, sym, ap, subst, ◌∙◌, arith, inl, inr, ◌⊎◌, eqb-true}
use Rattle.std.specs.List.{list_all}
use Rattle.std.proofs.lemmas.Bool.{and_parts, true≢false}
use Rattle.algebra.specs.Space.{Vector}
use Rattle.orient48.specs.Motions.{Matrix, is_signed_permutation}
use Rattle.orient48.specs.Laws.{IsTurn}
use Rattle.orient48.specs.Orients.{matrix_of}
use Rattle.orient48.proofs.Matrices.{is_turn}
use Rattle.orient48.proofs.Entries.{is_number_of, number_below, number_matrix, number_of}
use Rattle.orient48.proofs.Units.{UnitRows, unit_rows, units, each_unit}

-- ---- a test of all numbers below a count
abbrev all_below : (ℕ → Bool) → ℕ → Bool
all_below p zero = true
all_below p (suc n) = p n && all_below p n

below_or_last : (k n : ℕ) → k < suc n → (k ≡ n) ⊎ (k < n)
below_or_last k n h = grind arith

below : (p : ℕ → Bool) (n k : ℕ) → all_below p n ≡ true → k < n → p k ≡ true
below p zero k e h = absurd (omega arith)
below p (suc n) k e h =
    let t = and_parts (p n) (all_below p n) e in
    elim (below_or_last k n h) [ inl s ↦ subst (λ j. p j ≡ true) (sym s) t.0 | inr l ↦ below p n k t.1 l ]

pub signed : (k : ℕ) → k < 48 → is_signed_permutation (matrix_of k) ≡ true
signed k h = below (λ k. is_signed_permutation (matrix_of k)) 48 k refl h

pub number_turn : (k : ℕ) → k < 48 → IsTurn (matrix_of k)
number_turn k h = is_turn (matrix_of k) (signed k h)

-- ---- every signed permutation
abbrev rows_to : Vector → Vector → Vector → Matrix
rows_to u v w = record { x = u; y = v; z = w }

abbrev numbered : Matrix → Bool
numbered m = not (is_signed_permutation m) || is_number_of m (number_of m)

all_numbered : list_all (λ u. list_all (λ v. list_all (λ w. numbered (rows_to u v w)) units) units) units ≡ true
all_numbered = refl

each_numbered : (m : Matrix) → UnitRows m → numbered m ≡ true
each_numbered m r =
    each_unit (λ w. numbered (rows_to m.x m.y w))
    (each_unit (λ v. list_all (λ w. numbered (rows_to m.x v w)) units)
    (each_unit (λ u. list_all (λ v. list_all (λ w. numbered (rows_to u v w)) units) units) all_numbered m.x r.x) m.y r.y) m.z r.z

has_number : (m : Matrix) → is_signed_permutation m ≡ true → is_number_of m (number_of m) ≡ true
has_number m h = by (is_signed_permutation m) h (each_numbered m (unit_rows m h))
  where
    by : (b : Bool) → b ≡ true → (not b || is_number_of m (number_of m)) ≡ true → is_number_of m (number_of m) ≡ true
    by true e t = t
    by false e t = absurd (true≢false (sym e))

pub number_of_below : (m : Matrix) → is_signed_permutation m ≡ true → number_of m < 48
number_of_below m h = number_below m (number_of m) (has_number m h)

pub number_of_is : (m : Matrix) → is_signed_permutation m ≡ true → matrix_of (number_of m) ≡ m
number_of_is m h = number_matrix m (number_of m) (has_number m h)

pub of_number : (k : ℕ) → k < 48 → number_of (matrix_of k) ≡ k
of_number k h = eqb-true _ _ (below (λ k. number_of (matrix_of k) == k) 48 k refl h)

-- none of the numbers up to the next one has the matrix
pub one_more_misses : (m : Matrix) (n : ℕ) → ((k : ℕ) → k < n → matrix_of k ≢ m) → matrix_of n ≢ m → (k : ℕ) → k < n + 1 → matrix_of k ≢ m
one_more_misses m n before last k h e = elim (below_or_last k n (omega (arith, h))) [
  | inl s ↦ last (ap matrix_of (sym s) ∙ e)
  | inr l ↦ before k l e
]

never_signed : (m : Matrix) (b : Bool) → is_signed_permutation m ≡ b → ((k : ℕ) → k < 48 → matrix_of k ≢ m) → is_signed_permutation m ≡ false
never_signed m true e never = absurd (never (number_of m) (number_of_below m e) (number_of_is m e))
never_signed m false e never = e

-- a matrix without a number is no signed permutation
pub no_number : (m : Matrix) → ((k : ℕ) → k < 48 → matrix_of k ≢ m) → is_signed_permutation m ≡ false
no_number m never = never_signed m (is_signed_permutation m) refl never

-- two numbers of one matrix are one
pub one_number : (j k : ℕ) → j < 48 → k < 48 → matrix_of j ≡ matrix_of k → j ≡ k
one_number j k h l e = sym (of_number j h) ∙ ap number_of e ∙ of_number k l
