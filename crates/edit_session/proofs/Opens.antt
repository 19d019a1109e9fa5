-- Laws of opening a map.
use Rattle.std.proofs.Common.{◌≡◌, ◌⊎◌, ℕ, ◌<◌, ◌≤◌, ◌+◌, List, length, flat_map, Option, Some, None, IfSome, IsSomeAnd, Result, Ok, Err, IfOk, IfErr, refl, sym, subst, arith, replicate}
use Rattle.std.proofs.lemmas.List.{length-replicate}
use Rattle.outside_io.specs.Moved.{Rose, Grew}
use Rattle.outside_io.specs.Texts.{Texts, text_named, OnTooLong, OnFailed, UnlessFailed}
use Rattle.outside_io.specs.declared.faults.FetchEnd.{FetchEnd}
use Rattle.outside_io.specs.declared.faults.FetchEnd.TheVariants.{Failed, TooLong as TextTooLong, Memory as NoMemory}
use Rattle.map_report.specs.declared.fault.MapFault.{MapFault}
use Rattle.map_report.specs.declared.note.Note.{Note}
use Rattle.map_report.specs.Reports.{note_line}
use Rattle.map_model.specs.Tree.{Held, whole}
use Rattle.map_opening.specs.Opening.{Tree, Refused, Opens, opening_text}
use Rattle.edit_session.specs.declared.status.Status.{Status}
use Rattle.edit_session.specs.declared.status.Status.TheVariants.{Ended, Usage, ReadFault, WriteFault, MapRefused, Memory, TooLong}
use Rattle.edit_session.specs.Devices.{MayFind}
use Rattle.edit_session.specs.Opening.{fetch_status, HadMemory, GaveFront, Refuses, IsRead, Unread, IsOpened, NotOpened, OpenCause, TellCause}

-- The map is refused.
pub refused_unread : (status : Status) (fault : MapFault) (bytes : List ℕ) (given now : Option (List ℕ)) → (HadMemory fault → Opens bytes (Refused fault)) →
    Refuses status fault given now → Unread status bytes given now
refused_unread (MapRefused why) fault bytes given now opens h =
    (subst (λ w. Opens bytes (Refused w)) (sym h.0) (opens h.1), subst (λ w. Grew given now (opening_text (Refused w))) (sym h.0) h.2)
refused_unread WriteFault fault bytes given now opens h = (Refused fault, opens h.0, h.1)
refused_unread Memory fault bytes given now opens h = h
refused_unread ReadFault fault bytes given now opens h = absurd h
refused_unread (TooLong which) fault bytes given now opens h = absurd h
refused_unread Usage fault bytes given now opens h = absurd h
refused_unread Ended fault bytes given now opens h = absurd h

-- The map is opened, and its notes were given, or a front of them.
pub noted : (r : Result Held Status) (m : Held) (notes : List Note) (bytes : List ℕ) (given now : Option (List ℕ)) → Opens bytes (Tree (whole m) notes) →
    IfOk r (λ opened. (opened ≡ m) × Grew given now (flat_map note_line notes)) → IfOk r (λ opened. IsRead bytes (whole opened) given now)
noted (Err status) m notes bytes given now opens h = tt
noted (Ok opened) m notes bytes given now opens h = (notes, subst (λ x. Opens bytes (Tree (whole x) notes)) (sym h.0) opens, h.1)

pub noted_in_part : (r : Result Held Status) (m : Held) (notes : List Note) (bytes : List ℕ) (given now : Option (List ℕ)) → Opens bytes (Tree (whole m) notes) →
    IfErr r (λ status. (status ≡ WriteFault) × GaveFront given now (flat_map note_line notes)) → IfErr r (λ status. Unread status bytes given now)
noted_in_part (Ok opened) m notes bytes given now opens h = tt
noted_in_part (Err status) m notes bytes given now opens h = subst (λ s. Unread s bytes given now) (sym h.0) (Tree (whole m) notes, opens, h.1)

-- The bytes were fetched, and they open as a map.
pub read_opened : (r : Result Held Status) (texts : Option Texts) (name text : List ℕ) (given now : Option (List ℕ)) → length text ≤ 67108864 → MayFind texts name (Some text) →
    IfOk r (λ map. IsRead text (whole map) given now) → IfOk r (λ map. (found : Option (List ℕ)) × MayFind texts name found × IsOpened found (whole map) given now)
read_opened (Err status) texts name text given now fits is h = tt
read_opened (Ok map) texts name text given now fits is h = (Some text, is, record { bytes = text; found_is = refl; fits = fits; so = h })

-- They don't, or not all notes were given.
unread_found : (status : Status) (text : List ℕ) (given now : Option (List ℕ)) → length text ≤ 67108864 → Unread status text given now → NotOpened status (Some text) given now
unread_found (MapRefused fault) text given now fits h = record { bytes = text; found_is = refl; fits = fits; so = h }
unread_found WriteFault text given now fits h = record { bytes = text; found_is = refl; fits = fits; so = h }
unread_found Memory text given now fits h = h
unread_found ReadFault text given now fits h = absurd h
unread_found (TooLong which) text given now fits h = absurd h
unread_found Usage text given now fits h = absurd h
unread_found Ended text given now fits h = absurd h

pub read_unopened : (r : Result Held Status) (texts : Option Texts) (name text : List ℕ) (given now : Option (List ℕ)) → length text ≤ 67108864 → MayFind texts name (Some text) →
    IfErr r (λ status. Unread status text given now) → IfErr r (λ status. (found : Option (List ℕ)) × MayFind texts name found × NotOpened status found given now)
read_unopened (Ok map) texts name text given now fits is h = tt
read_unopened (Err status) texts name text given now fits is h = (Some text, is, unread_found status text given now fits h)

-- Why they don't.
unread_cause : (status : Status) (texts : Option Texts) (name : List ℕ) (f f1 g g1 : ℕ) → f1 ≡ f → TellCause status g g1 → OpenCause status texts name f f1 g g1
unread_cause (MapRefused fault) texts name f f1 g g1 e h = (h, e)
unread_cause WriteFault texts name f f1 g g1 e h = (h, e)
unread_cause Memory texts name f f1 g g1 e h = (h, e)
unread_cause ReadFault texts name f f1 g g1 e h = absurd h
unread_cause (TooLong which) texts name f f1 g g1 e h = absurd h
unread_cause Usage texts name f f1 g g1 e h = absurd h
unread_cause Ended texts name f f1 g g1 e h = absurd h

pub read_cause : (r : Result Held Status) (texts : Option Texts) (name : List ℕ) (f f1 g g1 : ℕ) → f1 ≡ f →
    IfErr r (λ status. TellCause status g g1) → IfErr r (λ status. OpenCause status texts name f f1 g g1)
read_cause (Ok map) texts name f f1 g g1 e h = tt
read_cause (Err status) texts name f f1 g g1 e h = unread_cause status texts name f f1 g g1 e h

-- Some list is longer.
longer_list : (n : ℕ) → (xs : List ℕ) × (n < length xs)
longer_list n = (replicate (n + 1) 0, omega (arith, length-replicate {A = ℕ} (n + 1) 0))

-- The bytes weren't fetched.
unfetched_at : (end : FetchEnd) (texts : Option Texts) (name : List ℕ) (given : Option (List ℕ)) →
    OnTooLong (Err end) (IfSome texts (λ t. IsSomeAnd (text_named t name) (λ bytes. 67108864 < length bytes))) →
    (found : Option (List ℕ)) × MayFind texts name found × NotOpened (fetch_status end) found given given
unfetched_at Failed None name given h = (None, tt, refl)
unfetched_at TextTooLong None name given h = let long = longer_list 67108864 in (Some long.0, tt, (long.1, refl))
unfetched_at NoMemory None name given h = (None, tt, refl)
unfetched_at Failed (Some t) name given h = (text_named t name, refl, refl)
unfetched_at TextTooLong (Some t) name given h = (text_named t name, refl, (h, refl))
unfetched_at NoMemory (Some t) name given h = (text_named t name, refl, refl)

pub unfetched_says : (end : FetchEnd) (status : Status) (texts : Option Texts) (name : List ℕ) (given : Option (List ℕ)) → status ≡ fetch_status end →
    OnTooLong (Err end) (IfSome texts (λ t. IsSomeAnd (text_named t name) (λ bytes. 67108864 < length bytes))) →
    (found : Option (List ℕ)) × MayFind texts name found × NotOpened status found given given
unfetched_says end status texts name given is h =
    subst (λ s. (found : Option (List ℕ)) × MayFind texts name found × NotOpened s found given given) (sym is) (unfetched_at end texts name given h)

fetch_cause : (end : FetchEnd) (texts : Option Texts) (name : List ℕ) (f f1 g : ℕ) →
    OnFailed (Err end) (Rose f f1 ⊎ IsSomeAnd texts (λ t. text_named t name ≡ None)) → UnlessFailed (Err end) (f1 ≡ f) → OpenCause (fetch_status end) texts name f f1 g g
fetch_cause Failed texts name f f1 g h q = (h, refl)
fetch_cause TextTooLong texts name f f1 g h q = (refl, q)
fetch_cause NoMemory texts name f f1 g h q = (refl, q)

pub unfetched_cause : (end : FetchEnd) (status : Status) (texts : Option Texts) (name : List ℕ) (f f1 g : ℕ) → status ≡ fetch_status end →
    OnFailed (Err end) (Rose f f1 ⊎ IsSomeAnd texts (λ t. text_named t name ≡ None)) → UnlessFailed (Err end) (f1 ≡ f) → OpenCause status texts name f f1 g g
unfetched_cause end status texts name f f1 g is h q = subst (λ s. OpenCause s texts name f f1 g g) (sym is) (fetch_cause end texts name f f1 g h q)
