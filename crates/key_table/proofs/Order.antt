-- The places of words, by rising word.
use Rattle.std.proofs.Common.{◌≡◌, ℕ, ◌+◌, ◌<◌, List, [], length, get_or, set, Bool, sym, ap, ◌∙◌, inl, inr, arith}
use Rattle.std.specs.Prelude.{slice_index, slice_index_or, IsPermutation}
use Rattle.std.specs.List.Sorted.{IsSortedBy}
use Rattle.std.specs.Cmp.Lexicographic.{slice_cmp}
use Rattle.std.specs.Cmp.{IsStrictWeakOrder}
use Rattle.std.specs.Ordering.{nat_cmp, is_lt}
use Rattle.std.proofs.lemmas.Cmp.{nat_list_cmp_total}
use Rattle.std.proofs.lemmas.Bool.{cases_eq}
use Rattle.std.proofs.lemmas.List.{get_or_default, get_or-set_same, get_or-set_other}
use Rattle.std.proofs.lemmas.List.Sorted.{ranks_by, sorted_far, Contains-permutation, All-permutation}
use Rattle.key_table.specs.Keys.{HasTwins, CountsUp, RisesBy, IsIndexed}

-- one more number is written
pub counts_more : (places : List ℕ) (place : ℕ) → place < length places → ((k : ℕ) → k < place → slice_index places k ≡ k)
    → (k : ℕ) → k < place + 1 → slice_index (set places place place) k ≡ k
counts_more places place within counted k below =
    elim (cases_eq k place) [
      | inl same ↦ ap (λ (q : ℕ). slice_index (set places place place) q) same ∙ get_or-set_same places place place 0 within ∙ sym same
      | inr other ↦ get_or-set_other places place k place 0 other ∙ counted k (omega arith)
    ]

-- the test that the places are sorted by
abbrev pub is_below : List (List ℕ) → ℕ → ℕ → Bool
is_below words a b = is_lt (slice_cmp nat_cmp (slice_index_or words a []) (slice_index_or words b []))

pub orders_places : (words : List (List ℕ)) → IsStrictWeakOrder (is_below words)
orders_places words = ranks_by nat_list_cmp_total (λ a. slice_index_or words a [])

pub rises_from_sorted : (words : List (List ℕ)) (order : List ℕ) → IsSortedBy (is_below words) order → RisesBy words order
rises_from_sorted words order sorted i j before within = sorted_far (is_below words) (orders_places words) order sorted i j 0 before within

-- every place is in the order, and nothing else
pub indexed_from : (words : List (List ℕ)) (counted order : List ℕ) → (HasTwins words → ⊥) → CountsUp counted → length counted ≡ length words
    → IsPermutation counted order → RisesBy words order → IsIndexed words order
indexed_from words counted order distinct counts same moved rises =
    record {
      distinct = distinct;
      below = λ k within. All-permutation (λ p. p < length words) counted order moved
          (λ j d inside. let at : get_or counted j d ≡ j = get_or_default counted j d 0 inside ∙ counts j inside in omega arith)
          k 0 within;
      rises = rises;
      reaches = λ place within. Contains-permutation counted order place moved
          (place, omega arith, get_or_default counted place place 0 (omega arith) ∙ counts place (omega arith));
    }
