-- What a run over the words `export MAP OUT` leaves in its devices, by the status that it ends with, and why.
use Rattle.std.specs.Prelude.{◌≡◌, ◌≢◌, ◌⊎◌, ℕ, List, [], ◌∷◌, Option}
use Rattle.outside_io.specs.Moved.{Grew, Rose}
use Rattle.outside_io.specs.Texts.{Texts}
use Rattle.map_report.specs.Reports.{summary_line}
use Rattle.map_report.specs.declared.summary.Summary.{Summary}
use Rattle.map_report.specs.declared.summary.Summary.TheVariants.{Exported}
use Rattle.map_opening.specs.Opening.{Opened, Tree, Refused, opening_text}
use Rattle.obj_export.specs.declared.obj.Obj.{Obj}
use Rattle.obj_export.specs.Text.{obj_of}
use Rattle.edit_session.specs.Tests.{Tests}
use Rattle.edit_session.specs.Devices.{Told, Counts, NoneFell, Unfetched, WriteCause}
use Rattle.edit_session.specs.Opening.{GaveFront}
use Rattle.edit_session.specs.Found.{StoppedTelling, NamedSays}
use Rattle.edit_session.specs.declared.status.Which.TheVariants.{Map, Script}
use Rattle.edit_session.specs.declared.status.Status.{Status}
use Rattle.edit_session.specs.declared.status.Status.TheVariants.{Ended, Usage, ReadFault, WriteFault, MapRefused, Memory, TooLong}

-- How much a text holds.
abbrev pub exported : Obj → Summary
exported o = Exported o.brushes o.vertices o.faces

-- The text was kept under the name, or wasn't, and its summary given: what was given and kept before and now.
abbrev pub Exports : Status → List ℕ → Obj → (given now : Option (List ℕ)) → (kept kept_now : Option Texts) → (ungiven : Type 0) → Type 0
Exports Ended out o given now kept kept_now ungiven =
    Grew kept kept_now ((out, o.text) ∷ []) × Grew given now (summary_line (exported o))
-- it wasn't kept; or it was, and not all of the summary was given
Exports WriteFault out o given now kept kept_now ungiven =
    ((kept_now ≡ kept) × (now ≡ given))
    ⊎ (ungiven × Grew kept kept_now ((out, o.text) ∷ []) × GaveFront given now (summary_line (exported o)))
Exports Memory out o given now kept kept_now ungiven = (kept_now ≡ kept) × (now ≡ given)
Exports ReadFault out o given now kept kept_now ungiven = ⊥
Exports (MapRefused fault) out o given now kept kept_now ungiven = ⊥
Exports (TooLong which) out o given now kept kept_now ungiven = ⊥
Exports Usage out o given now kept kept_now ungiven = ⊥

-- Only a keep that failed is a fault, or a line that can't be given: both counts at first and now.
abbrev pub ExportCause : Status → (keeps keeps_now gives gives_now : ℕ) → Type 0
ExportCause WriteFault keeps keeps_now gives gives_now =
    (Rose gives gives_now × (keeps_now ≡ keeps)) ⊎ (Rose keeps keeps_now × (gives_now ≡ gives))
ExportCause Ended keeps keeps_now gives gives_now = (keeps_now ≡ keeps) × (gives_now ≡ gives)
ExportCause Memory keeps keeps_now gives gives_now = (keeps_now ≡ keeps) × (gives_now ≡ gives)
ExportCause ReadFault keeps keeps_now gives gives_now = ⊥
ExportCause (MapRefused fault) keeps keeps_now gives gives_now = ⊥
ExportCause (TooLong which) keeps keeps_now gives gives_now = ⊥
ExportCause Usage keeps keeps_now gives gives_now = ⊥

-- Only a run that ended kept something, or one that couldn't give its summary.
abbrev pub KeptOnlyIf : Status → (kept kept_now : Option Texts) → (ungiven : Type 0) → Type 0
KeptOnlyIf status kept kept_now ungiven = status ≢ Ended → (kept_now ≡ kept) ⊎ ((status ≡ WriteFault) × ungiven)

-- How a run goes on that gave all lines of the opening.
abbrev pub ExportGoesOn : Tests → Opened → List ℕ → Status → Told → Told → (ungiven : Type 0) → Type 0
-- a refused map ends it
ExportGoesOn tests (Refused fault) out status before now ungiven = (status ≡ MapRefused fault) × (now ≡ before)
-- a map is written
ExportGoesOn tests (Tree m notes) out status before now ungiven =
    (now.left ≡ before.left) × Exports status out (obj_of tests.below m) before.given now.given before.kept now.kept ungiven

-- What a run leaves, by the way in which the map's bytes open: it stopped before all lines of the opening were given, or
-- it gave them all and went on.
abbrev pub ExportedSays : List ℕ → Status → Told → Told → (unfetched ungiven : Type 0) → Tests → Opened → Type 0
ExportedSays out status before now unfetched ungiven tests opened =
    StoppedTelling status (opening_text opened) before now unfetched ungiven
    ⊎ ((given : Option (List ℕ)) × Grew before.given given (opening_text opened)
    × ExportGoesOn tests opened out status (record before { given = given }) now ungiven)

-- The clause of a run over the words `export MAP OUT`, by what the vault has under the map's name.
abbrev pub ExportSays : Option Texts → List ℕ → List ℕ → Status → Told → Told → (unfetched ungiven : Type 0) → Type 0
ExportSays texts map out status before now unfetched ungiven =
    NamedSays texts map status before now unfetched
    (ExportedSays out status before now unfetched ungiven)

-- A fault has its cause in this call: a read fault in the fetch, a write fault in the replies or in the keep.
abbrev pub ExportCausedBy : Status → Option Texts → List ℕ → Counts → Counts → Type 0
ExportCausedBy ReadFault texts map before now = Unfetched texts map before now × (now.keeps ≡ before.keeps) × (now.gives ≡ before.gives)
ExportCausedBy WriteFault texts map before now = WriteCause before now
ExportCausedBy Ended texts map before now = now ≡ before
ExportCausedBy Memory texts map before now = now ≡ before
ExportCausedBy (MapRefused fault) texts map before now = now ≡ before
ExportCausedBy (TooLong Map) texts map before now = now ≡ before
ExportCausedBy (TooLong Script) texts map before now = ⊥
ExportCausedBy Usage texts map before now = ⊥

-- The clause of a run over the words `export MAP OUT`: what it leaves and the causes of its faults. Even where a device tells
-- nothing, no byte of the script was taken, its count of faults stays, only a run that ended or couldn't give its summary
-- kept something, and no count of faults fell.
pub record ExportRun (map out : List ℕ) (status : Status) (texts : Option Texts) (before now : Told)
    (counts counts_now : Counts) : Type 0 where
  pub says : ExportSays texts map out status before now (Unfetched texts map counts counts_now) (Rose counts.gives counts_now.gives)
  pub cause : ExportCausedBy status texts map counts counts_now
  pub unkept : KeptOnlyIf status before.kept now.kept (Rose counts.gives counts_now.gives)
  pub left : now.left ≡ before.left
  pub takes : counts_now.takes ≡ counts.takes
  pub later : NoneFell counts counts_now
