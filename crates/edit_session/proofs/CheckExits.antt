-- What a run over the words `check MAP` says at each of its ends.
use Rattle.std.proofs.Common.{◌≡◌, ℕ, List, Option, refl, sym, subst, inl, inr}
use Rattle.outside_io.specs.Moved.{Grew}
use Rattle.outside_io.specs.Texts.{Texts}
use Rattle.outside_io.proofs.Grown.{Grew-then}
use Rattle.map_report.specs.Reports.{summary_line}
use Rattle.map_report.specs.declared.note.Note.{Note}
use Rattle.map_model.specs.Tree.{Whole}
use Rattle.map_opening.specs.Opening.{Opened, Tree, Refused, opening_text, summary_of}
use Rattle.map_opening.specs.Laws.{OpensOneWay, OpensForAll}
use Rattle.edit_session.specs.declared.status.Status.{Status}
use Rattle.edit_session.specs.declared.status.Status.TheVariants.{Ended, Usage, ReadFault, WriteFault, MapRefused, Memory, TooLong}
use Rattle.edit_session.specs.Tests.{Tests}
use Rattle.edit_session.specs.Devices.{Told, told_of, MayFind}
use Rattle.edit_session.specs.Opening.{GaveFront, NotOpened, IsOpened}
use Rattle.edit_session.specs.Found.{StoppedTelling}
use Rattle.edit_session.specs.Summing.{Sums}
use Rattle.edit_session.specs.CheckRun.{check_text, CheckedSays, CheckSays}
use Rattle.edit_session.proofs.Exits.{once, found_read, not_opened}
use Rattle.edit_session.proofs.Telling.{front_before, front_behind}

-- A front of the opening is one of all that is given.
checked_front : (opened : Opened) (given now : Option (List ℕ)) → GaveFront given now (opening_text opened) → GaveFront given now (check_text opened)
checked_front (Tree m notes) given now h = front_before (opening_text (Tree m notes)) (summary_line (summary_of m)) given now h
checked_front (Refused fault) given now h = h

check_stopped : (status : Status) (opened : Opened) (before now : Told) (unfetched ungiven : Type 0) →
    StoppedTelling status (opening_text opened) before now unfetched ungiven → StoppedTelling status (check_text opened) before now unfetched ungiven
check_stopped ReadFault opened before now unfetched ungiven h = h
check_stopped Memory opened before now unfetched ungiven h = h
check_stopped WriteFault opened before now unfetched ungiven h = (h.0, checked_front opened before.given now.given h.1, h.2)
check_stopped (MapRefused fault) opened before now unfetched ungiven h = h
check_stopped (TooLong which) opened before now unfetched ungiven h = h
check_stopped Usage opened before now unfetched ungiven h = h
check_stopped Ended opened before now unfetched ungiven h = h

-- A run that opened no map, or gave not all of its notes.
pub check_unopened : OpensOneWay → OpensForAll → (texts : Option Texts) (map : List ℕ) (status : Status) (left given now : Option (List ℕ)) (kept kept_now : Option Texts) (unfetched ungiven : Type 0) →
    kept_now ≡ kept → (status ≡ ReadFault → unfetched) → (status ≡ WriteFault → ungiven) → (found : Option (List ℕ)) × MayFind texts map found × NotOpened status found given now →
    CheckSays texts map status (told_of left given kept) (told_of left now kept_now) unfetched ungiven
check_unopened one some texts map status left given now kept kept_now unfetched ungiven e f g h =
    subst (λ k. CheckSays texts map status (told_of left given kept) (told_of left now k) unfetched ungiven) (sym e) (
      h.0,
      h.1,
      not_opened one some left given now kept unfetched ungiven (CheckedSays status (told_of left given kept) (told_of left now kept) unfetched ungiven) status h.0
          (λ tests opened stopped. inl (check_stopped status opened (told_of left given kept) (told_of left now kept) unfetched ungiven stopped))
          (λ tests fault is grew. inr (is, grew, (refl, refl))) f g h.2,
    )

-- The summary was given, or a front of it.
summed : (status : Status) (m : Whole) (notes : List Note) (left given mid now : Option (List ℕ)) (kept : Option Texts) (unfetched ungiven : Type 0) (tests : Tests) →
    Grew given mid (opening_text (Tree m notes)) → Sums status (summary_of m) mid now → (status ≡ WriteFault → ungiven) →
    CheckedSays status (told_of left given kept) (told_of left now kept) unfetched ungiven tests (Tree m notes)
summed Ended m notes left given mid now kept unfetched ungiven tests g s f =
    inr (refl, Grew-then given mid now (opening_text (Tree m notes)) (summary_line (summary_of m)) g s, (refl, refl))
summed WriteFault m notes left given mid now kept unfetched ungiven tests g s f =
    inl (f refl, front_behind (opening_text (Tree m notes)) (summary_line (summary_of m)) given mid now g s, (refl, refl))
summed Usage m notes left given mid now kept unfetched ungiven tests g s f = absurd s
summed ReadFault m notes left given mid now kept unfetched ungiven tests g s f = absurd s
summed (MapRefused fault) m notes left given mid now kept unfetched ungiven tests g s f = absurd s
summed Memory m notes left given mid now kept unfetched ungiven tests g s f = absurd s
summed (TooLong which) m notes left given mid now kept unfetched ungiven tests g s f = absurd s

-- A run that opened the map and gave its notes.
pub check_opened : OpensOneWay → (texts : Option Texts) (name : List ℕ) (m : Whole) (status : Status) (left given mid now : Option (List ℕ)) (kept kept_now : Option Texts) (unfetched ungiven : Type 0) →
    kept_now ≡ kept → (status ≡ WriteFault → ungiven) → (found : Option (List ℕ)) × MayFind texts name found × IsOpened found m given mid → Sums status (summary_of m) mid now →
    CheckSays texts name status (told_of left given kept) (told_of left now kept_now) unfetched ungiven
check_opened one texts name m status left given mid now kept kept_now unfetched ungiven e f h s =
    let said = CheckedSays status (told_of left given kept) (told_of left now kept) unfetched ungiven in
    subst (λ k. CheckSays texts name status (told_of left given kept) (told_of left now k) unfetched ungiven) (sym e) (
      h.0,
      h.1,
      found_read h.0 h.2.bytes status (told_of left given kept) (told_of left now kept) unfetched said h.2.found_is h.2.fits
          (once one h.2.bytes said (Tree m h.2.so.0) h.2.so.1
          (λ tests. summed status m h.2.so.0 left given mid now kept unfetched ungiven tests h.2.so.2 s f)),
    )
