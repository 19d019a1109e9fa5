-- What a contract sees of an arena.
use Rattle.std.specs.Prelude.{ℕ, List, Option, Some, None, ◌==◌, cond, is_some, IsSome, count_by, slice_index_or, slice_set, refl}
use Rattle.std.specs.Coded.{Coded, code_by, coded×, coded_ℕ, coded_list, coded_option}

-- the value or nothing at each place from 0 on, and how many more values have room
pub record Slots (T : Type 0) : Type 0 where
  pub slots : List (Option T)
  pub spare : ℕ

-- it is stored as the pair of its fields
abbrev pub slots_code : {T : Type 0} → Coded T → Coded (Slots T)
slots_code {T} code =
    code_by
    (List (Option T) × ℕ)
    (coded× (coded_list (coded_option code)) coded_ℕ)
    (λ a. (a.slots, a.spare))
    (λ p. record { slots = p.0; spare = p.1 })
    (λ _. refl)

module _ {T : Type 0} where
  -- the value at a place
  abbrev pub slot_at : List (Option T) → ℕ → Option T
  slot_at slots place = slice_index_or slots place None

  -- the arena as a map from places to values
  abbrev pub contents : Slots T → ℕ → Option T
  contents arena place = slot_at arena.slots place

  -- a place has a value
  abbrev pub IsLive : Slots T → ℕ → Type 0
  IsLive arena place = IsSome (contents arena place)

  -- the map with another value, or none, at one place
  abbrev pub put : (ℕ → Option T) → ℕ → Option T → ℕ → Option T
  put map place slot other = cond (other == place) slot (map other)

  -- how many places have a value
  abbrev pub live_count : Slots T → ℕ
  live_count arena = count_by is_some arena.slots

  -- the arena after a write of the value at a place that has one
  abbrev pub with_value : Slots T → ℕ → T → Slots T
  with_value arena place value = record arena { slots = slice_set arena.slots place (Some value) }
