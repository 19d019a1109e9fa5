-- What a run leaves in its devices, by the bytes that the vault has under the map's name.
use Rattle.std.specs.Prelude.{◌≡◌, ◌⊎◌, ℕ, List, length, Option, Some, None, MatchBool, nat_lt}
use Rattle.outside_io.specs.Texts.{Texts}
use Rattle.map_opening.specs.Opening.{Opened, OpensAs, Opens}
use Rattle.edit_session.specs.Tests.{Tests}
use Rattle.edit_session.specs.Devices.{Told, MayFind}
use Rattle.edit_session.specs.Opening.{GaveFront}
use Rattle.edit_session.specs.declared.status.TheConstants.{LIMIT}
use Rattle.edit_session.specs.declared.status.Which.TheVariants.{Map, Script}
use Rattle.edit_session.specs.declared.status.Status.{Status}
use Rattle.edit_session.specs.declared.status.Status.TheVariants.{Ended, Usage, ReadFault, WriteFault, MapRefused, Memory, TooLong}

-- Nothing was kept, and no byte of the script was taken.
abbrev pub NoneTaken : Told → Told → Type 0
NoneTaken before now = (now.left ≡ before.left) × (now.kept ≡ before.kept)

-- The run stopped before this text was given whole: nothing was taken or kept, and nothing was given, but after a write
-- fault a front of the text. A read fault is one of the fetch, a write fault one of the replies.
abbrev pub StoppedTelling : Status → List ℕ → Told → Told → (unfetched ungiven : Type 0) → Type 0
StoppedTelling ReadFault text before now unfetched ungiven = unfetched × (now ≡ before)
StoppedTelling Memory text before now unfetched ungiven = now ≡ before
StoppedTelling WriteFault text before now unfetched ungiven =
    ungiven × GaveFront before.given now.given text × NoneTaken before now
StoppedTelling (MapRefused fault) text before now unfetched ungiven = ⊥
StoppedTelling (TooLong which) text before now unfetched ungiven = ⊥
StoppedTelling Usage text before now unfetched ungiven = ⊥
StoppedTelling Ended text before now unfetched ungiven = ⊥

-- The bytes open in one way, whatever right tests on solids there are, and this is said of it by each.
pub record OpensOnce (bytes : List ℕ) (said : Tests → Opened → Type 0) : Type 0 where
  pub opened : Opened
  pub opens : Opens bytes opened
  pub only : (tests : Tests) (other : Opened) → OpensAs tests.below bytes other → other ≡ opened
  pub says : (tests : Tests) → said tests opened

-- The map is longer than the limit: nothing was given, taken or kept.
abbrev pub LongSays : Status → Told → Told → Type 0 → Type 0
LongSays (TooLong Map) before now unfetched = now ≡ before
LongSays ReadFault before now unfetched = unfetched × (now ≡ before)
LongSays Memory before now unfetched = now ≡ before
LongSays (TooLong Script) before now unfetched = ⊥
LongSays (MapRefused fault) before now unfetched = ⊥
LongSays WriteFault before now unfetched = ⊥
LongSays Usage before now unfetched = ⊥
LongSays Ended before now unfetched = ⊥

-- There is no such text: nothing was given, taken or kept.
abbrev pub MissingSays : Status → Told → Told → Type 0
MissingSays status before now = ((status ≡ ReadFault) ⊎ (status ≡ Memory)) × (now ≡ before)

-- By what was found under the name.
abbrev pub FoundSays : Option (List ℕ) → Status → Told → Told → Type 0 → (Tests → Opened → Type 0) → Type 0
FoundSays None status before now unfetched said = MissingSays status before now
FoundSays (Some bytes) status before now unfetched said =
    MatchBool (nat_lt LIMIT (length bytes)) (LongSays status before now unfetched)
    (OpensOnce bytes said)

-- By what the vault has under the name, as far as it tells its texts.
abbrev pub NamedSays : Option Texts → List ℕ → Status → Told → Told → Type 0 → (Tests → Opened → Type 0) → Type 0
NamedSays texts map status before now unfetched said =
    (found : Option (List ℕ)) × MayFind texts map found
    × FoundSays found status before now unfetched said
