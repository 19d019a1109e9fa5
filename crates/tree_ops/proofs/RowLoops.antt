-- Rows over the numbers of a list, one after another.
use Rattle.std.proofs.Common.{◌≡◌, ℕ, ◌+◌, suc, ◌<◌, ◌≤◌, List, ◌∷◌, length, drop, map, get_or, Bool, true, false, Option, Ok, Err, ap, sym, ◌∙◌, arith, drop-cons, add-one}
use Rattle.std.specs.Prelude.{nat_lt, not}
use Rattle.std.proofs.lemmas.Bool.Decides.{nat_tests}
use Rattle.std.proofs.lemmas.List.{drop_all}
use Rattle.map_model.specs.Replies.{Refusal}
use Rattle.map_model.specs.Rows.{refuse, first, at_each}
use Rattle.tree_ops.specs.Passing.{passes}

abbrev pub row_of : (ℕ → Bool) → (ℕ → Refusal) → ℕ → Option Refusal
row_of p R n = refuse (p n) (R n)

-- No row of the first i numbers holds.
pub record Passed (p : ℕ → Bool) (R : ℕ → Refusal) (xs : List ℕ) (i : ℕ) : Type 0 where
  pub rest : at_each (drop i xs) (row_of p R) ≡ at_each xs (row_of p R)

module _ (p : ℕ → Bool) (R : ℕ → Refusal) (xs : List ℕ) (i n : ℕ) (lt : i < length xs) (is : n ≡ get_or xs i n) (passed : Passed p R xs i) where
  next_row : first (refuse (p n) (R n) ∷ map (row_of p R) (drop (suc i) xs)) ≡ at_each xs (row_of p R)
  next_row = ap (λ k. first (refuse (p k) (R k) ∷ map (row_of p R) (drop (suc i) xs))) is ∙ sym (ap (λ l. at_each l (row_of p R)) (drop-cons xs i n lt)) ∙ passed.rest

  pub refused_at : p n ≡ true → Err (R n) ≡ passes (at_each xs (row_of p R))
  refused_at holds = ap passes (sym (ap (λ b. first (refuse b (R n) ∷ map (row_of p R) (drop (suc i) xs))) holds) ∙ next_row)

  pub passed_one : p n ≡ false → Passed p R xs (i + 1)
  passed_one fails = record { rest = ap (λ k. at_each (drop k xs) (row_of p R)) (add-one i) ∙ sym (ap (λ b. first (refuse b (R n) ∷ map (row_of p R) (drop (suc i) xs))) fails) ∙ next_row }

pub passed_all : (p : ℕ → Bool) (R : ℕ → Refusal) (xs : List ℕ) (i : ℕ) → length xs ≤ i → Passed p R xs i → Ok tt ≡ passes (at_each xs (row_of p R))
passed_all p R xs i le passed = ap passes (sym (ap (λ l. at_each l (row_of p R)) (drop_all i xs le)) ∙ passed.rest)

pub is_twice : {a b : ℕ} → a ≡ b → 1 < a → nat_lt 1 b ≡ true
is_twice e h = grind (arith, nat_tests)

pub not_twice : {a b : ℕ} → a ≡ b → a ≤ 1 → nat_lt 1 b ≡ false
not_twice e h = grind (arith, nat_tests)

-- A test that fails or holds refuses or passes turned round.
pub refused_where : {a b : Bool} → a ≡ b → a ≡ false → not b ≡ true
refused_where e h = ap not (sym e ∙ h)

pub passed_where : {a b : Bool} → a ≡ b → a ≡ true → not b ≡ false
passed_where e h = ap not (sym e ∙ h)
