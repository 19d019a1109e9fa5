-- What a run over the words `edit MAP OUT` leaves in its devices, by the status that it ends with, and why.
use Rattle.std.specs.Prelude.{◌≡◌, ◌≢◌, ◌⊎◌, ℕ, ◌≤◌, List, [], ◌∷◌, ◌++◌, length, Option, Some, IfSome, ⊤}
use Rattle.outside_io.specs.Moved.{Grew, Rose}
use Rattle.outside_io.specs.Texts.{Texts}
use Rattle.line_machine.specs.Lines.{lines_of, whole_lines}
use Rattle.line_machine.specs.Machine.{Machine}
use Rattle.line_machine.specs.Served.{Served, ServedSoFar}
use Rattle.map_model.specs.Tree.{Whole}
use Rattle.map_opening.specs.Opening.{Opened, Tree, Refused, opening_text}
use Rattle.edit_session.specs.Tests.{Tests, machine_by, map_text, state_text}
use Rattle.edit_session.specs.Devices.{Told, Counts, NoneFell, Unfetched, TakenWithin, ReadCause, WriteCause}
use Rattle.edit_session.specs.Found.{StoppedTelling, NamedSays}
use Rattle.edit_session.specs.declared.status.TheConstants.{LIMIT}
use Rattle.edit_session.specs.declared.status.Which.TheVariants.{Map, Script}
use Rattle.edit_session.specs.declared.status.Status.{Status}
use Rattle.edit_session.specs.declared.status.Status.TheVariants.{Ended, Usage, ReadFault, WriteFault, MapRefused, Memory, TooLong}

-- Every line of the script is answered, none of it is left, and it was within the limit.
abbrev pub AllServed : {S : Type 0} → Machine S → List ℕ → List ℕ → S → Told → Told → Type 0
AllServed m script left t before now =
    (left ≡ []) × (length script ≤ LIMIT)
    × Served m.step m.start (lines_of script) t before.given now.given

-- The lines that were whole in what was taken are answered.
abbrev pub WholeServed : {S : Type 0} → Machine S → List ℕ → S → Told → Told → Type 0
WholeServed m taken t before now =
    Served m.step m.start (whole_lines taken) t before.given now.given

-- The map was opened and the script is told: what the machine's replies are, what is left of the
-- script, and what was kept. Each state of the machine has its text, and a reply may have failed.
abbrev pub OpenSays : {S : Type 0} → Machine S → (S → List ℕ) → List ℕ → Status →
    List ℕ → List ℕ → Told → Told → Type 0 → Type 0
-- all lines are answered, and the last map's text was kept under the name
OpenSays {S} m text out Ended script left before now ungiven =
    (t : S) × AllServed m script left t before now × Grew before.kept now.kept ((out, text t) ∷ [])
-- the lines that were whole in what was taken are answered
OpenSays {S} m text out ReadFault script left before now ungiven =
    (taken : List ℕ) × (t : S) × TakenWithin script taken left
    × WholeServed m taken t before now × (now.kept ≡ before.kept)
-- the replies are right as far as they go; all of them are there where none failed
OpenSays {S} m text out WriteFault script left before now ungiven =
    ((taken : List ℕ) × TakenWithin script taken left)
    × ServedSoFar m.step m.start (lines_of script) before.given now.given
    × (ungiven ⊎ ((t : S) × AllServed m script left t before now)) × (now.kept ≡ before.kept)
-- after the last line
OpenSays {S} m text out Memory script left before now ungiven =
    (t : S) × AllServed m script left t before now × (now.kept ≡ before.kept)
-- the lines that are whole in the first bytes are answered, and one byte more was taken
OpenSays {S} m text out (TooLong Script) script left before now ungiven =
    (taken : List ℕ) × (extra : ℕ) × (t : S) × (script ≡ taken ++ extra ∷ left)
    × (length taken ≡ LIMIT) × WholeServed m taken t before now × (now.kept ≡ before.kept)
OpenSays {S} m text out (TooLong Map) script left before now ungiven = ⊥
OpenSays {S} m text out (MapRefused fault) script left before now ungiven = ⊥
OpenSays {S} m text out Usage script left before now ungiven = ⊥

-- How a run may end once its map was opened and all of its notes were given.
abbrev pub MayServe : Status → Type 0
MayServe Ended = ⊤
MayServe ReadFault = ⊤
MayServe WriteFault = ⊤
MayServe Memory = ⊤
MayServe (TooLong Script) = ⊤
MayServe (TooLong Map) = ⊥
MayServe (MapRefused fault) = ⊥
MayServe Usage = ⊥

-- Where the run ended, the text of some map was kept under the name, and nothing else.
abbrev pub EndedKeeps : Status → List ℕ → Told → Told → Type 0
EndedKeeps status out before now =
    status ≡ Ended → (last : Whole) × Grew before.kept now.kept ((out, map_text last) ∷ [])

-- What the replies to the script are, where it is told.
abbrev pub ScriptSays : Tests → Whole → List ℕ → Status → Told → Told → Type 0 → Type 0
ScriptSays tests m out status before now ungiven =
    IfSome before.left (λ script. (left : List ℕ) × (now.left ≡ Some left)
    × OpenSays (machine_by tests m) state_text out status script left before now ungiven)

-- What a run leaves that answers the script from a map on.
abbrev pub ServedSays : Tests → Whole → List ℕ → Status → Told → Told → Type 0 → Type 0
ServedSays tests m out status before now ungiven =
    MayServe status × EndedKeeps status out before now
    × ScriptSays tests m out status before now ungiven

-- How a run goes on once all lines of the opening were given.
abbrev pub GoesOn : Tests → Opened → List ℕ → Status → Told → Told → Type 0 → Type 0
-- a refused map ends it
GoesOn tests (Refused fault) out status before now ungiven = (status ≡ MapRefused fault) × (now ≡ before)
-- a map answers the script
GoesOn tests (Tree m notes) out status before now ungiven = ServedSays tests m out status before now ungiven

-- What a run leaves, by the way in which the map's bytes open: it stopped before all lines of the opening were given, or
-- it gave them all and went on.
abbrev pub OpenedSays : List ℕ → Status → Told → Told → (unfetched ungiven : Type 0) → Tests → Opened → Type 0
OpenedSays out status before now unfetched ungiven tests opened =
    StoppedTelling status (opening_text opened) before now unfetched ungiven
    ⊎ ((given : Option (List ℕ)) × Grew before.given given (opening_text opened)
    × GoesOn tests opened out status (record before { given = given }) now ungiven)

-- The clause of a run over the words `edit MAP OUT`, by what the vault has under the map's name.
abbrev pub EditSays : Option Texts → List ℕ → List ℕ → Status → Told → Told → (unfetched ungiven : Type 0) → Type 0
EditSays texts map out status before now unfetched ungiven =
    NamedSays texts map status before now unfetched
    (OpenedSays out status before now unfetched ungiven)

-- A fault has its cause in this call, and where a count moved the status is that of the fault.
abbrev pub CausedBy : Status → Option Texts → List ℕ → Counts → Counts → Type 0
CausedBy ReadFault texts map before now = ReadCause texts map before now
CausedBy WriteFault texts map before now = WriteCause before now
CausedBy Ended texts map before now = now ≡ before
CausedBy Usage texts map before now = ⊥
CausedBy Memory texts map before now = now ≡ before
CausedBy (MapRefused fault) texts map before now = now ≡ before
CausedBy (TooLong which) texts map before now = now ≡ before

-- After a read fault the script's count rose, or everything is as it was.
abbrev pub UnreadLeaves : Status → ℕ → ℕ → Told → Told → Type 0
UnreadLeaves status takes takes_now before now =
    status ≡ ReadFault → Rose takes takes_now ⊎ (now ≡ before)

-- The clause of a run over the words `edit MAP OUT`: what it leaves and the causes of its faults.
-- What holds even where a device tells nothing: only a run that ended kept something, a map that
-- could not be fetched leaves everything as it was, and no count of faults fell.
pub record EditRun (map out : List ℕ) (status : Status) (texts : Option Texts) (before now : Told)
    (counts counts_now : Counts) : Type 0 where
  pub says : EditSays texts map out status before now (Unfetched texts map counts counts_now) (Rose counts.gives counts_now.gives)
  pub cause : CausedBy status texts map counts counts_now
  pub unkept : status ≢ Ended → now.kept ≡ before.kept
  pub unread : UnreadLeaves status counts.takes counts_now.takes before now
  pub later : NoneFell counts counts_now
