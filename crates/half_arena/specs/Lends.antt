-- What an arena ends as, where a `&mut` to one of its values is returned.
use Rattle.std.specs.Prelude.{ℕ, Option}
use Rattle.std.specs.Borrow.{LendsIf, Fml, RattleType, MutBor}
use Rattle.half_arena.specs.Slots.{Slots, with_value}
use Rattle.half_arena.specs.contracts.arena.Arena.{the_row}

module _ (T Id : RattleType) (s : MutBor (Slots T.Denot)) (place : ℕ) where
  -- once the borrow ends, the place has the last value written; with no borrow the arena stays
  abbrev pub lends_slot : Option (MutBor T.Denot) → Fml
  lends_slot r = LendsIf (the_row T Id) T s r (with_value s.now place) s.now
