-- Rows over the numbers of a list, one after another, each with an answer of its own.
use Rattle.std.proofs.Common.{◌≡◌, ℕ, ◌+◌, ◌-◌, suc, arith, false, ◌<◌, ◌≤◌, List, [], ◌∷◌, ◌++◌, length, drop, map, get_or, Option, None, Some, Result, Ok, Err, refl, ap, sym, subst, ◌∙◌, drop-cons, add-one}
use Rattle.std.specs.Prelude.{nat_lt, IsErrAnd}
use Rattle.std.proofs.lemmas.Bool.Decides.{nat_tests}
use Rattle.std.proofs.lemmas.List.{drop_all}
use Rattle.map_model.specs.Below.{Below, IsRight}
use Rattle.map_model.specs.Replies.{Refusal}
use Rattle.map_model.specs.Rows.{first, at_each}
use Rattle.tree_ops.specs.Passing.{passes}
use Rattle.tree_ops.specs.declared.fault.OpFault.{OpFault}
use Rattle.tree_ops.specs.declared.fault.OpFault.TheVariants.{No, Memory}
use Rattle.tree_ops.proofs.Outcomes.{err_is}
use Rattle.brush_plans.specs.Saying.{Says}

-- What an answer says of its row.
pub no_row : (r : Option Refusal) → Ok tt ≡ passes r → r ≡ None
no_row None e = refl
no_row (Some refusal) e = absurd (cc)

pub that_row : (r : Option Refusal) (refusal : Refusal) → Err refusal ≡ passes r → r ≡ Some refusal
that_row None refusal e = absurd (cc)
that_row (Some other) refusal e = cc

-- No row of the first i numbers holds.
pub record Passed (row : ℕ → Option Refusal) (xs : List ℕ) (i : ℕ) : Type 0 where
  pub rest : at_each (drop i xs) row ≡ at_each xs row

module _ (row : ℕ → Option Refusal) (xs : List ℕ) (i n : ℕ) (lt : i < length xs) (is : n ≡ get_or xs i n) (passed : Passed row xs i) where
  next_row : first (row n ∷ map row (drop (suc i) xs)) ≡ at_each xs row
  next_row = ap (λ k. first (row k ∷ map row (drop (suc i) xs))) is ∙ sym (ap (λ l. at_each l row) (drop-cons xs i n lt)) ∙ passed.rest

  pub stopped_row : (refusal : Refusal) → row n ≡ Some refusal → at_each xs row ≡ Some refusal
  stopped_row refusal e = sym next_row ∙ ap (λ r. first (r ∷ map row (drop (suc i) xs))) e

  pub passed_row : row n ≡ None → Passed row xs (i + 1)
  passed_row e = record { rest = ap (λ k. at_each (drop k xs) row) (add-one i) ∙ sym (ap (λ r. first (r ∷ map row (drop (suc i) xs))) e) ∙ next_row }

  -- The same by answers.
  pub stops : (refusal : Refusal) → Err refusal ≡ passes (row n) → Err refusal ≡ passes (at_each xs row)
  stops refusal e = ap passes (sym (stopped_row refusal (that_row (row n) refusal e)))

  pub goes_on : Ok tt ≡ passes (row n) → Passed row xs (i + 1)
  goes_on e = passed_row (no_row (row n) e)

pub passed_all : (row : ℕ → Option Refusal) (xs : List ℕ) (i : ℕ) → length xs ≤ i → Passed row xs i → at_each xs row ≡ None
passed_all row xs i le passed = sym passed.rest ∙ ap (λ l. at_each l row) (drop_all i xs le)

pub all_pass : (row : ℕ → Option Refusal) (xs : List ℕ) (i : ℕ) → length xs ≤ i → Passed row xs i → Ok tt ≡ passes (at_each xs row)
all_pass row xs i le passed = ap passes (sym (passed_all row xs i le passed))

-- Rows by tests.
pub says_stop : (row other : Below → Option Refusal) → ((b : Below) → IsRight b → (refusal : Refusal) → row b ≡ Some refusal → other b ≡ Some refusal) → (why : OpFault) → Says row (Err why) → Says other (Err why)
says_stop row other same (No refusal) s = λ b right. same b right refusal (s b right)
says_stop row other same Memory s = tt

pub says_err : (row : Below → Option Refusal) (result : Result (Unit {0}) OpFault) (why : OpFault) → IsErrAnd result (λ e. e ≡ why) → Says row (Err why) → Says row result
says_err row result why h s = subst (Says row) (sym (err_is result why h)) s

-- A list of one row.
pub alone : (r : Option Refusal) → first (r ∷ []) ≡ r
alone None = refl
alone (Some refusal) = refl

-- Rows one behind another. --------------------------------------------------------------------------------------------------------------

-- No row of the list holds.
abbrev pub AllPass : List (Option Refusal) → Type 0
AllPass [] = Unit {0}
AllPass (r ∷ rs) = (r ≡ None) × AllPass rs

pub first_behind : (front : List (Option Refusal)) (rest : List (Option Refusal)) → AllPass front → first (front ++ rest) ≡ first rest
first_behind [] rest h = refl
first_behind (r ∷ front) rest h = ap (λ x. first (x ∷ (front ++ rest))) h.0 ∙ first_behind front rest h.1

pub first_stops : (front : List (Option Refusal)) (r : Option Refusal) (rest : List (Option Refusal)) (refusal : Refusal) → AllPass front → r ≡ Some refusal → first (front ++ r ∷ rest) ≡ Some refusal
first_stops front r rest refusal h e = first_behind front (r ∷ rest) h ∙ ap (λ x. first (x ∷ rest)) e

-- The row of numbers, where none is drawn.
pub none_drawn : (n : ℕ) → n ≤ 65536 → nat_lt 65535 (n - 1) ≡ false
none_drawn n le = let lt : n - 1 ≤ 65535 = omega arith in grind (arith, nat_tests)
