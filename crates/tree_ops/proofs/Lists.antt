-- Tests over the numbers of a list, one after another, and lists that grow.
use Rattle.std.proofs.Common.{◌≡◌, ℕ, suc, ◌+◌, ◌<◌, ◌≤◌, List, [], ◌∷◌, ◌++◌, length, drop, take, get_or, Bool, true, false, ◌&&◌, ap, sym, ◌∙◌, drop-cons, add-one, append_assoc}
use Rattle.std.proofs.lemmas.List.{append-nil, drop_all, take_all, take_more}
use Rattle.std.specs.List.{list_all}

-- The first i numbers pass the test.
pub record AllSoFar (p : ℕ → Bool) (xs : List ℕ) (i : ℕ) : Type 0 where
  pub rest : list_all p (drop i xs) ≡ list_all p xs

module _ (p : ℕ → Bool) (xs : List ℕ) (i n : ℕ) (lt : i < length xs) (is : n ≡ get_or xs i n) (so_far : AllSoFar p xs i) where
  next : (p n && list_all p (drop (suc i) xs)) ≡ list_all p xs
  next = ap (λ k. p k && list_all p (drop (suc i) xs)) is ∙ sym (ap (list_all p) (drop-cons xs i n lt)) ∙ so_far.rest

  pub all_on : p n ≡ true → AllSoFar p xs (i + 1)
  all_on holds = record { rest = ap (λ k. list_all p (drop k xs)) (add-one i) ∙ sym (ap (λ b. b && list_all p (drop (suc i) xs)) holds) ∙ next }

  pub all_stops : p n ≡ false → false ≡ list_all p xs
  all_stops fails = sym (ap (λ b. b && list_all p (drop (suc i) xs)) fails) ∙ next

pub all_ends : (p : ℕ → Bool) (xs : List ℕ) (i : ℕ) → length xs ≤ i → AllSoFar p xs i → true ≡ list_all p xs
all_ends p xs i le so_far = sym (ap (list_all p) (drop_all i xs le)) ∙ so_far.rest

-- The first i numbers are put behind others.
pub record Pushed (old xs now : List ℕ) (i : ℕ) : Type 0 where
  pub is : now ≡ old ++ take i xs

pub pushed_none : (old xs : List ℕ) → Pushed old xs old 0
pushed_none old xs = record { is = sym (append-nil old) }

pub pushed_one : (old xs now new : List ℕ) (i : ℕ) → i < length xs → Pushed old xs now i → new ≡ now ++ get_or xs i 0 ∷ [] → Pushed old xs new (i + 1)
pushed_one old xs now new i lt p pushed = record {
  is = pushed ∙ ap (λ l. l ++ get_or xs i 0 ∷ []) p.is ∙ append_assoc old (take i xs) (get_or xs i 0 ∷ []) ∙ ap (λ l. old ++ l) (sym (take_more xs i 0 lt));
}

pub pushed_all : (old xs now : List ℕ) (i : ℕ) → length xs ≤ i → Pushed old xs now i → now ≡ old ++ xs
pushed_all old xs now i le p = p.is ∙ ap (λ l. old ++ l) (take_all i xs le)
