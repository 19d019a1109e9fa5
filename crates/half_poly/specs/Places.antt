-- The places of numbers in a list, by their slots.
use Rattle.std.specs.Prelude.{◌≡◌, ◌≢◌, ℕ, ◌<◌, List, length, get_or}

-- No slot stands twice in the list.
abbrev pub AreDistinct : List ℕ → Type 0
AreDistinct slots = (i j : ℕ) → i < j → j < length slots → get_or slots i 0 ≢ get_or slots j 0

-- Each slot is below the limit.
abbrev pub AreWithin : List ℕ → ℕ → Type 0
AreWithin slots limit = (i : ℕ) → i < length slots → get_or slots i 0 < limit

-- The table has the places of the first n slots.
abbrev pub ArePlaces : List ℕ → List ℕ → ℕ → Type 0
ArePlaces slots table n = (i : ℕ) → i < n → get_or table (get_or slots i 0) 0 ≡ i
