-- Slots and the entries of changes.
use Rattle.std.specs.Prelude.{◌≡◌, ◌≢◌, ℕ, ◌+◌, ◌-◌, ◌<◌, ◌≤◌, length, get_or, map, List, [], ◌∷◌, false, cond, ◌==◌, Option, Result, Ok, Err}
use Rattle.algebra.specs.Members.{◌∈◌}
use Rattle.map_nodes.specs.declared.entry.Entry.{Entry}
use Rattle.map_nodes.specs.declared.node.Node.{Node}
use Rattle.map_model.specs.Tree.{Whole, Held, whole, at, is_linked, slot_at}
use Rattle.map_model.specs.Edits.{Changes, swap}
use Rattle.map_model.specs.Shape.{Shape}

-- What each map keeps: its shape, and, as long as there are no links, that no group is linked.
pub record IsMap (m : Whole) : Type 0 where
  pub shape : Shape m
  pub unlinked : (n : ℕ) → is_linked m n ≡ false

-- The map with a change.
abbrev pub changed : Held → Changes → Whole
changed held c = swap (whole held) c

-- What stands at a number by a change.
abbrev pub by_entries : List Entry → ℕ → Option Node → Option Node
by_entries [] q d = d
by_entries (e ∷ es) q d = cond (e.id == q) e.node (by_entries es q d)

-- The entries with what stands in the slots at their numbers.
abbrev pub taken_from : List (Option Node) → List Entry → List Entry
taken_from slots [] = []
taken_from slots (e ∷ es) = record e { node = slot_at slots e.id } ∷ taken_from slots es

-- The numbers of the entries rise, from above n on.
abbrev pub Above : ℕ → List Entry → Type 0
Above n [] = Unit {0}
Above n (e ∷ es) = (n < e.id) × Above e.id es

abbrev pub Rising : List Entry → Type 0
Rising [] = Unit {0}
Rising (e ∷ es) = Above e.id es

-- All entries before place k have lower numbers than id, and those from there on have not.
pub record IsFrom (es : List Entry) (id k : ℕ) : Type 0 where
  pub within : k ≤ length es
  pub before : (j : ℕ) (e : Entry) → j < k → (get_or es j e).id < id
  pub from : (j : ℕ) (e : Entry) → k ≤ j → j < length es → id ≤ (get_or es j e).id

-- The entry of a number has this place; or there is none, and it would stand there.
pub record IsAt (es : List Entry) (id k : ℕ) : Type 0 where
  pub here : k < length es
  pub is : (e : Entry) → (get_or es k e).id ≡ id

pub record IsGap (es : List Entry) (id k : ℕ) : Type 0 where
  pub within : k ≤ length es
  pub before : (j : ℕ) (e : Entry) → j < k → (get_or es j e).id < id
  pub after : (j : ℕ) (e : Entry) → k ≤ j → j < length es → id < (get_or es j e).id

abbrev pub IsPlace : List Entry → ℕ → Result ℕ ℕ → Type 0
IsPlace es id (Ok k) = IsAt es id k
IsPlace es id (Err k) = IsGap es id k

-- The numbers of the entries, and that each is below n.
abbrev pub numbers_of : List Entry → List ℕ
numbers_of es = map (λ e. e.id) es

abbrev pub AllBelow : ℕ → List Entry → Type 0
AllBelow n es = (k : ℕ) (e : Entry) → k < length es → (get_or es k e).id < n

-- How many numbers are drawn in all, once n more are. The world's number is not counted.
abbrev pub total_drawn : Changes → ℕ → ℕ
total_drawn c n = (c.next - 1) + n

-- Of the entries those are kept whose nodes differ from those of the map.
pub record KeepsDifferent (m : Whole) (old new : List Entry) : Type 0 where
  pub rising : Rising new
  pub same : (q : ℕ) → by_entries new q (at m q) ≡ by_entries old q (at m q)
  pub differs : (e : Entry) → e ∈ new → at m e.id ≢ e.node
