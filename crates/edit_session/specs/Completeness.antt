-- What it means that a run that meets no fault ends.
use Rattle.std.specs.Prelude.{◌≡◌, ◌≢◌, ◌⊎◌, ℕ, ◌≤◌, ◌^◌, ◌-◌, List, length, Option, Some, None}
use Rattle.outside_io.specs.Texts.{Texts, text_named}
use Rattle.map_report.specs.declared.note.Note.{Note}
use Rattle.map_model.specs.Tree.{Whole}
use Rattle.map_opening.specs.Opening.{Tree, OpensAs}
use Rattle.edit_session.specs.Tests.{Tests}
use Rattle.edit_session.specs.Devices.{Told, Counts}
use Rattle.edit_session.specs.EditRun.{EditRun}
use Rattle.edit_session.specs.CheckRun.{CheckRun}
use Rattle.edit_session.specs.ExportRun.{ExportRun}
use Rattle.edit_session.specs.declared.status.TheConstants.{LIMIT}
use Rattle.edit_session.specs.declared.status.Status.{Status}
use Rattle.edit_session.specs.declared.status.Status.TheVariants.{Ended, ReadFault, WriteFault, Memory}

-- No count stands at its last value, so each one tells whether there was a fault.
pub record NoneFull (counts : Counts) : Type 0 where
  pub fetches : counts.fetches ≢ 2 ^ 64 - 1
  pub keeps : counts.keeps ≢ 2 ^ 64 - 1
  pub takes : counts.takes ≢ 2 ^ 64 - 1
  pub gives : counts.gives ≢ 2 ^ 64 - 1

-- The texts have bytes under the name, within the limit, that open as a map.
pub record CanOpen (texts : Texts) (map : List ℕ) : Type 0 where
  pub bytes : List ℕ
  pub tests : Tests
  pub whole : Whole
  pub notes : List Note
  pub named : text_named texts map ≡ Some bytes
  pub opens : OpensAs tests.below bytes (Tree whole notes)
  pub fits : length bytes ≤ LIMIT

-- The script is told and within the limit.
pub record CanRead (left : Option (List ℕ)) : Type 0 where
  pub script : List ℕ
  pub script_is : left ≡ Some script
  pub fits : length script ≤ LIMIT

-- A run of which no count of faults rises ends, where it can, or wants memory.
abbrev pub QuietRunsEnd : Type 0
QuietRunsEnd =
    (map out : List ℕ) (status : Status) (texts : Texts) (before now : Told) (counts : Counts) →
    EditRun map out status (Some texts) before now counts counts →
    NoneFull counts → CanOpen texts map → CanRead before.left → (status ≡ Ended) ⊎ (status ≡ Memory)

abbrev pub QuietChecksEnd : Type 0
QuietChecksEnd =
    (map : List ℕ) (status : Status) (texts : Texts) (before now : Told) (counts : Counts) →
    CheckRun map status (Some texts) before now counts counts →
    NoneFull counts → CanOpen texts map → (status ≡ Ended) ⊎ (status ≡ Memory)

abbrev pub QuietExportsEnd : Type 0
QuietExportsEnd =
    (map out : List ℕ) (status : Status) (texts : Texts) (before now : Told) (counts : Counts) →
    ExportRun map out status (Some texts) before now counts counts →
    NoneFull counts → CanOpen texts map → (status ≡ Ended) ⊎ (status ≡ Memory)

-- A run of which no count of faults rises meets no fault, whatever the map and the script are,
-- where the vault tells a text of the map's name.
abbrev pub IsNoFault : Status → Type 0
IsNoFault status = (status ≢ ReadFault) × (status ≢ WriteFault)

abbrev pub QuietRunsMeetNoFault : Type 0
QuietRunsMeetNoFault =
    (map out : List ℕ) (status : Status) (texts : Texts) (before now : Told) (counts : Counts) →
    EditRun map out status (Some texts) before now counts counts →
    NoneFull counts → text_named texts map ≢ None → IsNoFault status

abbrev pub QuietChecksMeetNoFault : Type 0
QuietChecksMeetNoFault =
    (map : List ℕ) (status : Status) (texts : Texts) (before now : Told) (counts : Counts) →
    CheckRun map status (Some texts) before now counts counts →
    NoneFull counts → text_named texts map ≢ None → IsNoFault status

abbrev pub QuietExportsMeetNoFault : Type 0
QuietExportsMeetNoFault =
    (map out : List ℕ) (status : Status) (texts : Texts) (before now : Told) (counts : Counts) →
    ExportRun map out status (Some texts) before now counts counts →
    NoneFull counts → text_named texts map ≢ None → IsNoFault status
