-- What a run over the words `check MAP` leaves in its devices, by the status that it ends with, and why.
use Rattle.std.specs.Prelude.{◌≡◌, ◌⊎◌, ℕ, List, ◌++◌, Option}
use Rattle.outside_io.specs.Moved.{Grew, Rose}
use Rattle.outside_io.specs.Texts.{Texts}
use Rattle.map_report.specs.Reports.{summary_line}
use Rattle.map_model.specs.Tree.{Whole}
use Rattle.map_opening.specs.Opening.{Opened, Tree, Refused, opening_text, summary_of}
use Rattle.edit_session.specs.Tests.{Tests}
use Rattle.edit_session.specs.Devices.{Told, Counts, NoneFell, Unfetched}
use Rattle.edit_session.specs.Found.{NoneTaken, StoppedTelling, NamedSays}
use Rattle.edit_session.specs.declared.status.Which.TheVariants.{Map, Script}
use Rattle.edit_session.specs.declared.status.Status.{Status}
use Rattle.edit_session.specs.declared.status.Status.TheVariants.{Ended, Usage, ReadFault, WriteFault, MapRefused, Memory, TooLong}

-- The lines of the opening, and behind the notes of a map its summary.
abbrev pub check_text : Opened → List ℕ
check_text (Tree m notes) = opening_text (Tree m notes) ++ summary_line (summary_of m)
check_text (Refused fault) = opening_text (Refused fault)

-- How a run ends that gave them all.
abbrev pub check_status : Opened → Status
check_status (Tree m notes) = Ended
check_status (Refused fault) = MapRefused fault

-- What a run leaves, by the way in which the map's bytes open: it stopped before all lines were given, or it gave them all.
abbrev pub CheckedSays : Status → Told → Told → (unfetched ungiven : Type 0) → Tests → Opened → Type 0
CheckedSays status before now unfetched ungiven tests opened =
    StoppedTelling status (check_text opened) before now unfetched ungiven
    ⊎ ((status ≡ check_status opened) × Grew before.given now.given (check_text opened) × NoneTaken before now)

-- The clause of a run over the words `check MAP`, by what the vault has under the map's name.
abbrev pub CheckSays : Option Texts → List ℕ → Status → Told → Told → (unfetched ungiven : Type 0) → Type 0
CheckSays texts map status before now unfetched ungiven =
    NamedSays texts map status before now unfetched
    (CheckedSays status before now unfetched ungiven)

-- A fault has its cause in this call: a read fault in the fetch, a write fault in the replies.
abbrev pub CheckCausedBy : Status → Option Texts → List ℕ → Counts → Counts → Type 0
CheckCausedBy ReadFault texts map before now = Unfetched texts map before now × (now.gives ≡ before.gives)
CheckCausedBy WriteFault texts map before now = Rose before.gives now.gives × (now.fetches ≡ before.fetches)
CheckCausedBy Ended texts map before now = now ≡ before
CheckCausedBy Memory texts map before now = now ≡ before
CheckCausedBy (MapRefused fault) texts map before now = now ≡ before
CheckCausedBy (TooLong Map) texts map before now = now ≡ before
CheckCausedBy (TooLong Script) texts map before now = ⊥
CheckCausedBy Usage texts map before now = ⊥

-- The clause of a run over the words `check MAP`: what it leaves and the causes of its faults. Even where a device tells
-- nothing, nothing was taken or kept, the counts of both stay, and no count of faults fell.
pub record CheckRun (map : List ℕ) (status : Status) (texts : Option Texts) (before now : Told)
    (counts counts_now : Counts) : Type 0 where
  pub says : CheckSays texts map status before now (Unfetched texts map counts counts_now) (Rose counts.gives counts_now.gives)
  pub cause : CheckCausedBy status texts map counts counts_now
  pub none_taken : NoneTaken before now
  pub takes : counts_now.takes ≡ counts.takes
  pub keeps : counts_now.keeps ≡ counts.keeps
  pub later : NoneFell counts counts_now
