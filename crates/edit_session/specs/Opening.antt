-- What it means that a map was opened and its notes were given, or that it wasn't, and why.
use Rattle.std.specs.Prelude.{◌≡◌, ◌≢◌, ◌⊎◌, ℕ, ◌<◌, ◌≤◌, List, length, take, Option, Some, IsSomeAnd}
use Rattle.outside_io.specs.Moved.{Grew, Rose}
use Rattle.outside_io.specs.Texts.{Texts}
use Rattle.outside_io.specs.declared.faults.FetchEnd.{FetchEnd}
use Rattle.outside_io.specs.declared.faults.FetchEnd.TheVariants.{Failed, TooLong as TextTooLong, Memory as NoMemory}
use Rattle.map_text.specs.declared.read_fault.ReadFault.TheVariants.{Memory as NoMemoryToRead}
use Rattle.map_report.specs.declared.fault.MapFault.{MapFault}
use Rattle.map_report.specs.declared.fault.MapFault.TheVariants.{Read}
use Rattle.map_report.specs.declared.note.Note.{Note}
use Rattle.map_model.specs.Tree.{Whole}
use Rattle.map_opening.specs.Opening.{Opened, Tree, Refused, Opens, opening_text}
use Rattle.edit_session.specs.Devices.{HasNone}
use Rattle.edit_session.specs.declared.status.TheConstants.{LIMIT}
use Rattle.edit_session.specs.declared.status.Which.TheVariants.{Map, Script}
use Rattle.edit_session.specs.declared.status.Status.{Status}
use Rattle.edit_session.specs.declared.status.Status.TheVariants.{Ended, Usage, ReadFault, WriteFault, MapRefused, Memory, TooLong}

-- The status of a run whose map wasn't fetched.
abbrev pub fetch_status : FetchEnd → Status
fetch_status Failed = ReadFault
fetch_status TextTooLong = TooLong Map
fetch_status NoMemory = Memory

-- A front of the text was given.
abbrev pub GaveFront : Option (List ℕ) → Option (List ℕ) → List ℕ → Type 0
GaveFront given now text = (n : ℕ) × Grew given now (take n text)

-- There was memory to read and to build the map.
abbrev pub HadMemory : MapFault → Type 0
HadMemory fault = fault ≢ Read NoMemoryToRead

-- The one line of a refused map was given, or a front of it.
abbrev pub Refuses : Status → MapFault → Option (List ℕ) → Option (List ℕ) → Type 0
Refuses (MapRefused why) fault given now =
    (why ≡ fault) × HadMemory fault × Grew given now (opening_text (Refused fault))
Refuses WriteFault fault given now = HadMemory fault × GaveFront given now (opening_text (Refused fault))
Refuses Memory fault given now = now ≡ given
Refuses ReadFault fault given now = ⊥
Refuses (TooLong which) fault given now = ⊥
Refuses Usage fault given now = ⊥
Refuses Ended fault given now = ⊥

-- The bytes open as the map, and its notes were given.
abbrev pub IsRead : List ℕ → Whole → Option (List ℕ) → Option (List ℕ) → Type 0
IsRead bytes m given now =
    (notes : List Note) × Opens bytes (Tree m notes) × Grew given now (opening_text (Tree m notes))

-- They were refused, or not all lines of the opening were given.
abbrev pub Unread : Status → List ℕ → Option (List ℕ) → Option (List ℕ) → Type 0
Unread (MapRefused fault) bytes given now =
    Opens bytes (Refused fault) × Grew given now (opening_text (Refused fault))
Unread WriteFault bytes given now =
    (opened : Opened) × Opens bytes opened × GaveFront given now (opening_text opened)
Unread Memory bytes given now = now ≡ given
Unread ReadFault bytes given now = ⊥
Unread (TooLong which) bytes given now = ⊥
Unread Usage bytes given now = ⊥
Unread Ended bytes given now = ⊥

-- Something holds of the bytes that were found, which were short enough.
pub record OfFound (found : Option (List ℕ)) (holds : List ℕ → Type 0) : Type 0 where
  pub bytes : List ℕ
  pub found_is : found ≡ Some bytes
  pub fits : length bytes ≤ LIMIT
  pub so : holds bytes

-- The map was opened, and its notes were given.
abbrev pub IsOpened : Option (List ℕ) → Whole → Option (List ℕ) → Option (List ℕ) → Type 0
IsOpened found m given now = OfFound found (λ bytes. IsRead bytes m given now)

-- No map was opened, or not all of its notes were given, by what the vault has under its name.
abbrev pub NotOpened : Status → Option (List ℕ) → Option (List ℕ) → Option (List ℕ) → Type 0
NotOpened ReadFault found given now = now ≡ given
NotOpened Memory found given now = now ≡ given
NotOpened (TooLong Map) found given now =
    IsSomeAnd found (λ bytes. LIMIT < length bytes) × (now ≡ given)
NotOpened (MapRefused fault) found given now =
    OfFound found (λ bytes. Unread (MapRefused fault) bytes given now)
NotOpened WriteFault found given now = OfFound found (λ bytes. Unread WriteFault bytes given now)
NotOpened (TooLong Script) found given now = ⊥
NotOpened Usage found given now = ⊥
NotOpened Ended found given now = ⊥

-- Only a line that can't be given is a fault: the replies' count of faults at first and now.
abbrev pub TellCause : Status → ℕ → ℕ → Type 0
TellCause WriteFault gives gives_now = Rose gives gives_now
TellCause (MapRefused fault) gives gives_now = gives_now ≡ gives
TellCause Memory gives gives_now = gives_now ≡ gives
TellCause ReadFault gives gives_now = ⊥
TellCause (TooLong which) gives gives_now = ⊥
TellCause Usage gives gives_now = ⊥
TellCause Ended gives gives_now = ⊥

-- Why no map was opened: the count of fetches that failed at first and now, and the replies' count.
abbrev pub OpenCause : Status → Option Texts → List ℕ → ℕ → ℕ → ℕ → ℕ → Type 0
OpenCause ReadFault texts map fetches fetches_now gives gives_now =
    (Rose fetches fetches_now ⊎ HasNone texts map) × (gives_now ≡ gives)
OpenCause WriteFault texts map fetches fetches_now gives gives_now =
    Rose gives gives_now × (fetches_now ≡ fetches)
OpenCause (MapRefused fault) texts map fetches fetches_now gives gives_now =
    (gives_now ≡ gives) × (fetches_now ≡ fetches)
OpenCause Memory texts map fetches fetches_now gives gives_now =
    (gives_now ≡ gives) × (fetches_now ≡ fetches)
OpenCause (TooLong Map) texts map fetches fetches_now gives gives_now =
    (gives_now ≡ gives) × (fetches_now ≡ fetches)
OpenCause (TooLong Script) texts map fetches fetches_now gives gives_now = ⊥
OpenCause Usage texts map fetches fetches_now gives gives_now = ⊥
OpenCause Ended texts map fetches fetches_now gives gives_now = ⊥
