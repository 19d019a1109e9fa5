-- Lists of words without twins, and an index over one.
use Rattle.std.specs.Prelude.{◌≡◌, ℕ, ◌<◌, ◌≤◌, List, [], length, false, Contains, slice_index, slice_index_or}
use Rattle.std.specs.Cmp.Lexicographic.{slice_cmp}
use Rattle.std.specs.Ordering.{nat_cmp, is_lt}

-- an earlier place has the same word
abbrev pub HasEarlierTwin : List (List ℕ) → ℕ → Type 0
HasEarlierTwin words place = (earlier : ℕ) × (earlier < place)
    × (slice_index_or words earlier [] ≡ slice_index_or words place [])

-- two places have the same word
abbrev pub HasTwins : List (List ℕ) → Type 0
HasTwins words = (place : ℕ) × (place < length words) × HasEarlierTwin words place

-- the list is 0, 1, 2 and so on
abbrev pub CountsUp : List ℕ → Type 0
CountsUp places = (k : ℕ) → k < length places → slice_index places k ≡ k

-- no word is below the one at an earlier place of the order, as bytes are compared
abbrev pub RisesBy : List (List ℕ) → List ℕ → Type 0
RisesBy words order = (i j : ℕ) → i ≤ j → j < length order
    → is_lt (slice_cmp nat_cmp (slice_index_or words (slice_index order j) []) (slice_index_or words (slice_index order i) [])) ≡ false

-- the words are distinct, and the order has their places by rising word
pub record IsIndexed (words : List (List ℕ)) (order : List ℕ) : Type 0 where
  pub distinct : HasTwins words → ⊥
  pub below : (k : ℕ) → k < length order → slice_index order k < length words
  pub rises : RisesBy words order
  pub reaches : (place : ℕ) → place < length words → Contains order place
