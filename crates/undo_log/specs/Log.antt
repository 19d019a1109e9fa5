-- A history beside its map: the list of whole maps for which the two stand, and what each step does to it.
use Rattle.std.specs.Prelude.{◌≡◌, ℕ, ◌+◌, ◌≤◌, List, [], ◌∷◌, ◌++◌, length, take, drop}
use Rattle.algebra.specs.Members.{Every}
use Rattle.map_model.specs.Tree.{Whole, Held, whole}
use Rattle.map_model.specs.Edits.{Changes, swap}
use Rattle.map_model.specs.History.{Records, Stands, Tight, maps_before, maps_after}
use Rattle.tree_node.specs.Held.{IsMap, AllBelow}

-- A history as it is seen: its records, and how many changes can be added before memory is wanted.
pub record Log : Type 0 where
  pub records : Records
  pub room : ℕ

-- The changes of a list, the last first.
abbrev pub last_first : List Changes → List Changes
last_first [] = []
last_first (c ∷ cs) = last_first cs ++ c ∷ []

-- A list of changes with a place: those before the place are for undo, and the others for redo.
abbrev pub records_at : ℕ → List Changes → Records
records_at place cs = record { behind = last_first (take place cs); ahead = drop place cs }

-- The whole maps for which records stand beside a map, the oldest first; that map's place among them.
abbrev pub maps_of : Records → Whole → List Whole
maps_of h m = maps_before m h.behind ++ m ∷ maps_after m h.ahead

abbrev pub place_of : Records → ℕ
place_of h = length h.behind

-- The numbers that a change names have slots.
abbrev pub HasSlots : Held → Changes → Type 0
HasSlots map c = AllBelow (length map.slots) c.entries

-- What records and the map beside them keep: they stand for the list of maps, each change tight; each map of the list is what a
-- map of the editor is; and each change could be swapped in without another slot.
pub record Keeps (h : Records) (map : Held) : Type 0 where
  pub stands : Stands h (whole map) (maps_of h (whole map)) (place_of h)
  pub are_maps : Every IsMap (maps_of h (whole map))
  pub slots_behind : Every (HasSlots map) h.behind
  pub slots_ahead : Every (HasSlots map) h.ahead

-- The maps stay, and the place is one lower.
pub record GoesBack (old : Records) (before : Held) (new : Records) (after : Held) : Type 0 where
  pub maps : maps_of new (whole after) ≡ maps_of old (whole before)
  pub place : place_of new + 1 ≡ place_of old
  pub keeps : Keeps new after

-- The maps stay, and the place is one higher.
pub record GoesOn (old : Records) (before : Held) (new : Records) (after : Held) : Type 0 where
  pub maps : maps_of new (whole after) ≡ maps_of old (whole before)
  pub place : place_of new ≡ place_of old + 1
  pub keeps : Keeps new after

-- The change leads from the map after back to the one before, and names no node in vain.
pub record LeadsBack (after : Held) (c : Changes) (before : Held) : Type 0 where
  pub back : swap (whole after) c ≡ whole before
  pub tight : Tight (whole after) c
  pub is_map : IsMap (whole after)
  pub has_slots : HasSlots after c
  pub no_fewer : length before.slots ≤ length after.slots

-- The maps after the place are gone, and one has come.
pub record HasOneMore (old : Records) (before : Held) (new : Records) (after : Held) : Type 0 where
  pub maps : maps_of new (whole after) ≡ take (place_of old + 1) (maps_of old (whole before)) ++ whole after ∷ []
  pub place : place_of new ≡ place_of old + 1
  pub keeps : Keeps new after

-- A change that leads back to the map beside old records leaves new records with one map more.
abbrev pub Adds : Records → Changes → Records → Type 0
Adds old c new = (before after : Held) → Keeps old before → LeadsBack after c before → HasOneMore old before new after
