-- What the three devices of a run tell at one time, and their counts of faults.
use Rattle.std.specs.Prelude.{◌≡◌, ◌⊎◌, ℕ, ◌≤◌, List, ◌++◌, length, Option, None, IfSome, IsSomeAnd}
use Rattle.outside_io.specs.Moved.{Rose}
use Rattle.outside_io.specs.Texts.{Texts, text_named}
use Rattle.edit_session.specs.declared.status.TheConstants.{LIMIT}

-- The script's bytes that are left, the bytes given to the replies, and the pairs that were kept.
pub record Told : Type 0 where
  pub left : Option (List ℕ)
  pub given : Option (List ℕ)
  pub kept : Option Texts

-- The vault's two counts of faults, the script's and the replies'.
pub record Counts : Type 0 where
  pub fetches : ℕ
  pub keeps : ℕ
  pub takes : ℕ
  pub gives : ℕ

-- What the devices tell, and their counts of faults, one after another.
abbrev pub told_of : Option (List ℕ) → Option (List ℕ) → Option Texts → Told
told_of left given kept = record { left = left; given = given; kept = kept }

abbrev pub counts_of : ℕ → ℕ → ℕ → ℕ → Counts
counts_of fetches keeps takes gives =
    record { fetches = fetches; keeps = keeps; takes = takes; gives = gives }

-- These bytes, or none, may stand under the name: they do, where the vault tells its texts.
abbrev pub MayFind : Option Texts → List ℕ → Option (List ℕ) → Type 0
MayFind texts name found = IfSome texts (λ told. text_named told name ≡ found)

-- The vault tells its texts, and none has the name.
abbrev pub HasNone : Option Texts → List ℕ → Type 0
HasNone texts name = IsSomeAnd texts (λ told. text_named told name ≡ None)

-- These first bytes of the script were taken, no more than the limit, and those are left.
abbrev pub TakenWithin : List ℕ → List ℕ → List ℕ → Type 0
TakenWithin script taken left = (script ≡ taken ++ left) × (length taken ≤ LIMIT)

-- The map could not be fetched.
abbrev pub Unfetched : Option Texts → List ℕ → Counts → Counts → Type 0
Unfetched texts map before now = Rose before.fetches now.fetches ⊎ HasNone texts map

-- The map could not be fetched, or a piece of the script could not be taken; no other count moved.
abbrev pub ReadCause : Option Texts → List ℕ → Counts → Counts → Type 0
ReadCause texts map before now =
    ((Unfetched texts map before now × (now.takes ≡ before.takes))
    ⊎ (Rose before.takes now.takes × (now.fetches ≡ before.fetches)))
    × (now.keeps ≡ before.keeps) × (now.gives ≡ before.gives)

-- A reply could not be given, or the map could not be kept; no other count moved.
abbrev pub WriteCause : Counts → Counts → Type 0
WriteCause before now =
    ((Rose before.gives now.gives × (now.keeps ≡ before.keeps))
    ⊎ (Rose before.keeps now.keeps × (now.gives ≡ before.gives)))
    × (now.fetches ≡ before.fetches) × (now.takes ≡ before.takes)

-- No count fell.
pub record NoneFell (before now : Counts) : Type 0 where
  pub fetches : before.fetches ≤ now.fetches
  pub keeps : before.keeps ≤ now.keeps
  pub takes : before.takes ≤ now.takes
  pub gives : before.gives ≤ now.gives
