-- A binary search over an order of places.
use Rattle.std.proofs.Common.{◌≡◌, ◌≢◌, ◌↔◌, ℕ, ◌+◌, ◌<◌, ◌≤◌, List, [], length, true, false, Option, Some, None, sym, ap, ◌∙◌, inl, inr, arith, Contains}
use Rattle.std.specs.Prelude.{slice_get, slice_index, slice_index_or}
use Rattle.std.specs.Cmp.Lexicographic.{slice_cmp}
use Rattle.std.specs.Ordering.{nat_cmp, is_lt, ordering_reverse}
use Rattle.std.specs.declared.cmp.Ordering.{Ordering}
use Rattle.std.specs.declared.cmp.Ordering.TheVariants.{Less, Equal, Greater}
use Rattle.std.proofs.lemmas.Cmp.{nat_list_cmp_total}
use Rattle.std.proofs.lemmas.Map.Lookups.{exact_bytes}
use Rattle.std.proofs.lemmas.Bool.{cases_lt, cases_order}
use Rattle.std.proofs.lemmas.List.{get_or_default}
use Rattle.std.proofs.lemmas.Option.{slice_get_within, get_or_from_slice_get, slice_get-get_or}
use Rattle.key_table.specs.Keys.{HasTwins, RisesBy, IsIndexed}

-- the word at a place of the order
abbrev pub text_by : List (List ℕ) → List ℕ → ℕ → List ℕ
text_by words order k = slice_index_or words (slice_index order k) []

-- the word isn't at a place of the order before low or from high on
pub record Excluded (words : List (List ℕ)) (order word : List ℕ) (low high : ℕ) : Type 0 where
  pub before : (k : ℕ) → k < low → text_by words order k ≢ word
  pub after : (k : ℕ) → high ≤ k → k < length order → text_by words order k ≢ word

-- every place is outside at first
pub excluded_at_first : (words : List (List ℕ)) (order word : List ℕ) (high : ℕ) → length order ≤ high → Excluded words order word 0 high
excluded_at_first words order word high all =
    record { before = λ k below. absurd (omega arith); after = λ k above within. absurd (omega arith) }

-- a word above the one in the middle isn't before or at the middle
pub excluded_above : (words : List (List ℕ)) (order word : List ℕ) (low middle high : ℕ) → RisesBy words order
    → middle < length order → Excluded words order word low high
    → slice_cmp nat_cmp word (text_by words order middle) ≡ Greater
    → Excluded words order word (middle + 1) high
excluded_above words order word low middle high rises within was above =
    record {
      before = λ k below same.
          let kept : is_lt (slice_cmp nat_cmp (text_by words order middle) (text_by words order k)) ≡ false = rises k middle (omega arith) within in
          let turned : slice_cmp nat_cmp (text_by words order middle) word ≡ Less =
          nat_list_cmp_total.antisymm (text_by words order middle) word ∙ ap ordering_reverse above in
          let low : is_lt (slice_cmp nat_cmp (text_by words order middle) word) ≡ true = ap is_lt turned in
          let seen : is_lt (slice_cmp nat_cmp (text_by words order middle) (text_by words order k)) ≡ is_lt (slice_cmp nat_cmp (text_by words order middle) word) =
          ap (λ (x : List ℕ). is_lt (slice_cmp nat_cmp (text_by words order middle) x)) same in
          cc;
      after = was.after;
    }

-- a word below the one in the middle isn't at the middle or after it
pub excluded_below : (words : List (List ℕ)) (order word : List ℕ) (low middle high : ℕ) → RisesBy words order
    → middle < length order → Excluded words order word low high
    → slice_cmp nat_cmp word (text_by words order middle) ≡ Less
    → Excluded words order word low middle
excluded_below words order word low middle high rises within was below =
    record {
      before = was.before;
      after = λ k above inside same.
          let kept : is_lt (slice_cmp nat_cmp (text_by words order k) (text_by words order middle)) ≡ false = rises middle k above inside in
          let low : is_lt (slice_cmp nat_cmp word (text_by words order middle)) ≡ true = ap is_lt below in
          let seen : is_lt (slice_cmp nat_cmp (text_by words order k) (text_by words order middle)) ≡ is_lt (slice_cmp nat_cmp word (text_by words order middle)) =
          ap (λ (x : List ℕ). is_lt (slice_cmp nat_cmp x (text_by words order middle))) same in
          cc;
    }

-- where the search ends, no place has the word
pub excluded_everywhere : (words : List (List ℕ)) (order word : List ℕ) (low high : ℕ) → IsIndexed words order
    → high ≤ low → Excluded words order word low high → (place : ℕ) → slice_get words place ≢ Some word
excluded_everywhere words order word low high indexed met none place here =
    let reached = indexed.reaches place (slice_get_within words place word here) in
    let k = reached.0 in
    let at : slice_index order k ≡ place = get_or_default order k 0 place reached.1 ∙ reached.2 in
    let text : text_by words order k ≡ word = ap (λ (p : ℕ). slice_index_or words p []) at ∙ get_or_from_slice_get words place word [] here in
    elim (cases_lt k low) [ inl before ↦ none.before k before text | inr after ↦ none.after k (omega arith) reached.1 text ]

-- where a comparison finds the word, its place has it
pub found_there : (words : List (List ℕ)) (order word : List ℕ) (middle : ℕ) → IsIndexed words order → middle < length order
    → slice_cmp nat_cmp word (text_by words order middle) ≡ Equal → slice_get words (slice_index order middle) ≡ Some word
found_there words order word middle indexed within equal =
    slice_get-get_or words (slice_index order middle) [] (indexed.below middle within)
    ∙ ap (λ (x : List ℕ). Some x) (sym (exact_bytes word (text_by words order middle) equal))

twins_from : (words : List (List ℕ)) (word : List ℕ) (i j : ℕ) → slice_get words i ≡ Some word → slice_get words j ≡ Some word → i < j → HasTwins words
twins_from words word i j first second before = (
  j,
  slice_get_within words j word second,
  (i, before, get_or_from_slice_get words i word [] first ∙ sym (get_or_from_slice_get words j word [] second)),
)

-- distinct words have a word at one place
pub one_place : (words : List (List ℕ)) (word : List ℕ) (i j : ℕ) → (HasTwins words → ⊥) → slice_get words i ≡ Some word → slice_get words j ≡ Some word → i ≡ j
one_place words word i j distinct first second =
    elim (cases_order i j) [
      | inl same ↦ same
      | inr other ↦ elim other [
        | inl before ↦ absurd (distinct (twins_from words word i j first second before))
        | inr after ↦ absurd (distinct (twins_from words word j i second first after))
      ]
    ]

pub contains_at : (words : List (List ℕ)) (word : List ℕ) (place : ℕ) → slice_get words place ≡ Some word → Contains words word
contains_at words word place here = (place, slice_get_within words place word here, get_or_from_slice_get words place word word here)

pub place_from_contains : (words : List (List ℕ)) (word : List ℕ) → Contains words word → (place : ℕ) × (slice_get words place ≡ Some word)
place_from_contains words word there = (there.0, slice_get-get_or words there.0 word there.1 ∙ ap (λ (x : List ℕ). Some x) there.2)

-- what `find` says where it has found the place
pub found_place : (words : List (List ℕ)) (word : List ℕ) (p : ℕ) → (HasTwins words → ⊥) → slice_get words p ≡ Some word
    → (place : ℕ) → (Some p ≡ Some place) ↔ (slice_get words place ≡ Some word)
found_place words word p distinct here place = (
  λ same. let e : p ≡ place = cc in ap (λ (q : ℕ). slice_get words q) (sym e) ∙ here,
  λ there. ap (λ (q : ℕ). Some q) (one_place words word p place distinct here there),
)

pub found_not_absent : (words : List (List ℕ)) (word : List ℕ) (p : ℕ) → slice_get words p ≡ Some word
    → (Some p ≡ None) ↔ (Contains words word → ⊥)
found_not_absent words word p here = (λ same. absurd (cc), λ missing. absurd (missing (contains_at words word p here)))

-- and where no place has the word
pub missed_place : (words : List (List ℕ)) (word : List ℕ) → ((place : ℕ) → slice_get words place ≢ Some word)
    → (place : ℕ) → (None ≡ Some place) ↔ (slice_get words place ≡ Some word)
missed_place words word none place = (λ same. absurd (cc), λ there. absurd (none place there))

pub missed_absent : (words : List (List ℕ)) (word : List ℕ) → ((place : ℕ) → slice_get words place ≢ Some word)
    → (answer : Option ℕ) → answer ≡ None → (answer ≡ None) ↔ (Contains words word → ⊥)
missed_absent words word none answer is = (
  λ same there. let at = place_from_contains words word there in none at.0 at.1,
  λ missing. is,
)

-- what a comparison with the word that was read says of the word at its place
pub compared : (word seen text : List ℕ) (r o : Ordering) → seen ≡ text → r ≡ slice_cmp nat_cmp word seen → r ≡ o → slice_cmp nat_cmp word text ≡ o
compared word seen text r o read answer is = ap (λ (x : List ℕ). slice_cmp nat_cmp word x) (sym read) ∙ sym answer ∙ is
