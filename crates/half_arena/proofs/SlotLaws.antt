-- Laws of arenas, for callers.
use Rattle.std.proofs.Common.{◌≡◌, ◌≢◌, ℕ, ◌<◌, [], length, Option, Some, None, refl, sym, ap, ◌∙◌, inl, inr, arith}
use Rattle.std.proofs.lemmas.Bool.{cases_eq}
use Rattle.std.proofs.lemmas.Bool.Decides.{nat_tests}
use Rattle.std.proofs.lemmas.List.{get_or-set_same, get_or-set_other, get_or_past}
use Rattle.half_arena.specs.Slots.{Slots, contents, IsLive, put, with_value}

module _ {T : Type 0} where
  -- a live place is one of the slots
  pub live_within : (arena : Slots T) (place : ℕ) → IsLive arena place → place < length arena.slots
  live_within arena place live = grind (arith, get_or_past)

  -- no place of an empty arena is live
  pub contents-empty : (arena : Slots T) → arena.slots ≡ [] → (place : ℕ) → contents arena place ≡ None
  contents-empty arena empty place = rw empty refl

  -- what is put at a place is there
  pub put-same : (map : ℕ → Option T) (place : ℕ) (slot : Option T) → put map place slot place ≡ slot
  put-same map place slot = grind (arith, nat_tests)

  -- and every other place keeps what it had
  pub put-other : (map : ℕ → Option T) (place : ℕ) (slot : Option T) (other : ℕ) → other ≢ place → put map place slot other ≡ map other
  put-other map place slot other differs = grind (arith, nat_tests)

  -- a map that is changed at one place alone
  pub put-from_places : (old new : ℕ → Option T) (place : ℕ) (slot : Option T) → new place ≡ slot
      → ((other : ℕ) → other ≢ place → new other ≡ old other) → new ≡ put old place slot
  put-from_places old new place slot here others = λ i other. at other i
    where
      at : (other : ℕ) → new other ≡ put old place slot other
      at other = elim (cases_eq other place) [
        | inl same ↦ ap new same ∙ here ∙ sym (put-same old place slot) ∙ ap (put old place slot) (sym same)
        | inr differs ↦ others other differs ∙ sym (put-other old place slot other differs)
      ]

  -- a write of a value at a live place
  pub contents-with_value : (arena : Slots T) (place : ℕ) (value : T) → IsLive arena place
      → contents (with_value arena place value) ≡ put (contents arena) place (Some value)
  contents-with_value arena place value live =
      put-from_places _ _ place (Some value)
      (get_or-set_same arena.slots place (Some value) None (live_within arena place live))
      (λ other differs. get_or-set_other arena.slots place other (Some value) None differs)
