-- What a run over the words `edit MAP OUT` says at each of its ends.
use Rattle.std.proofs.Common.{◌≡◌, ◌≢◌, ℕ, List, [], ◌∷◌, Option, Some, None, IfSome, refl, ap, sym, subst, ◌∙◌, inl, inr, append-nil}
use Rattle.outside_io.specs.Moved.{Grew, Rose}
use Rattle.outside_io.specs.Texts.{Texts}
use Rattle.line_machine.proofs.Runs.{so_far-whole}
use Rattle.map_model.specs.Tree.{Whole}
use Rattle.map_model.specs.Machine.{State, open_at, current}
use Rattle.map_opening.specs.Opening.{Tree}
use Rattle.map_opening.specs.Laws.{OpensOneWay, OpensForAll}
use Rattle.edit_session.specs.declared.status.Status.{Status}
use Rattle.edit_session.specs.declared.status.Status.TheVariants.{Ended, Usage, ReadFault, WriteFault, MapRefused, Memory, TooLong}
use Rattle.edit_session.specs.declared.serve.Stop.{Stop}
use Rattle.edit_session.specs.declared.serve.Stop.TheVariants.{TakeFailed, GiveFailed, TooLong as PastLimit}
use Rattle.edit_session.specs.Tests.{Tests, step_by, map_text, state_text}
use Rattle.edit_session.specs.Devices.{Told, Counts, told_of, MayFind}
use Rattle.edit_session.specs.Serving.{ReadAll, StoppedAt, stop_status}
use Rattle.edit_session.specs.Opening.{NotOpened, IsOpened}
use Rattle.edit_session.specs.Keeping.{Keeps, ServeCause}
use Rattle.edit_session.specs.EditRun.{MayServe, ScriptSays, ServedSays, OpenedSays, EditSays, UnreadLeaves}
use Rattle.edit_session.proofs.Exits.{once, found_read, not_opened}

-- A run that opened no map, or gave not all of its notes.
pub edit_unopened : OpensOneWay → OpensForAll → (texts : Option Texts) (map out : List ℕ) (status : Status) (left given now : Option (List ℕ)) (kept kept_now : Option Texts) (unfetched ungiven : Type 0) →
    kept_now ≡ kept → (status ≡ ReadFault → unfetched) → (status ≡ WriteFault → ungiven) → (found : Option (List ℕ)) × MayFind texts map found × NotOpened status found given now →
    EditSays texts map out status (told_of left given kept) (told_of left now kept_now) unfetched ungiven
edit_unopened one some texts map out status left given now kept kept_now unfetched ungiven e f g h =
    subst (λ k. EditSays texts map out status (told_of left given kept) (told_of left now k) unfetched ungiven) (sym e) (
      h.0,
      h.1,
      not_opened one some left given now kept unfetched ungiven (OpenedSays out status (told_of left given kept) (told_of left now kept) unfetched ungiven) status h.0
          (λ tests opened stopped. inl stopped) (λ tests fault is grew. inr (now, grew, (is, refl))) f g h.2,
    )

-- A run that opened the map and gave its notes.
pub edit_opened : OpensOneWay → (texts : Option Texts) (name out : List ℕ) (m : Whole) (status : Status) (left left_now given mid now : Option (List ℕ)) (kept kept_mid kept_now : Option Texts)
    (gives gives_mid gives_now : ℕ) (unfetched : Type 0) → kept_mid ≡ kept → gives_mid ≡ gives → (found : Option (List ℕ)) × MayFind texts name found × IsOpened found m given mid →
    ((tests : Tests) → ServedSays tests m out status (told_of left mid kept_mid) (told_of left_now now kept_now) (Rose gives_mid gives_now)) →
    EditSays texts name out status (told_of left given kept) (told_of left_now now kept_now) unfetched (Rose gives gives_now)
edit_opened one texts name out m status left left_now given mid now kept kept_mid kept_now gives gives_mid gives_now unfetched e f h says =
    let said = OpenedSays out status (told_of left given kept) (told_of left_now now kept_now) unfetched (Rose gives gives_now) in (
      h.0,
      h.1,
      found_read h.0 h.2.bytes status (told_of left given kept) (told_of left_now now kept_now) unfetched said h.2.found_is h.2.fits
          (once one h.2.bytes said (Tree m h.2.so.0) h.2.so.1 (λ tests. inr (
            mid,
            h.2.so.2,
            subst (λ n. ServedSays tests m out status (told_of left mid kept) (told_of left_now now kept_now) (Rose n gives_now)) f
                (subst (λ k. ServedSays tests m out status (told_of left mid k) (told_of left_now now kept_now) (Rose gives_mid gives_now)) e (says tests)),
          ))),
    )

-- Reading the script stopped.
script_stopped : (stop : Stop) (tests : Tests) (m : Whole) (out : List ℕ) (left left_now given now : Option (List ℕ)) (kept : Option Texts) (ungiven : Type 0) → (stop ≡ GiveFailed → ungiven) →
    IfSome left (λ script. (rest : List ℕ) × (left_now ≡ Some rest) × StoppedAt (step_by tests) (open_at m) stop script rest given now) →
    ScriptSays tests m out (stop_status stop) (told_of left given kept) (told_of left_now now kept) ungiven
script_stopped stop tests m out None left_now given now kept ungiven f h = tt
script_stopped TakeFailed tests m out (Some script) left_now given now kept ungiven f h = (h.0, h.1, (h.2.0, h.2.1, h.2.2, h.2.3, refl))
script_stopped GiveFailed tests m out (Some script) left_now given now kept ungiven f h = (h.0, h.1, (h.2.0, h.2.1, inl (f refl), refl))
script_stopped PastLimit tests m out (Some script) left_now given now kept ungiven f h = (h.0, h.1, (h.2.0, h.2.1, h.2.2, h.2.3, h.2.4, h.2.5, refl))

stop_serves : (stop : Stop) → MayServe (stop_status stop)
stop_serves TakeFailed = tt
stop_serves GiveFailed = tt
stop_serves PastLimit = tt

stop_ends_not : (stop : Stop) → stop_status stop ≢ Ended
stop_ends_not TakeFailed e = absurd (cc)
stop_ends_not GiveFailed e = absurd (cc)
stop_ends_not PastLimit e = absurd (cc)

pub stopped_says : (stop : Stop) (status : Status) (tests : Tests) (s : State) (m : Whole) (out : List ℕ) (left left_now given now : Option (List ℕ)) (kept : Option Texts) (ungiven : Type 0) →
    status ≡ stop_status stop → s ≡ open_at m → (stop ≡ GiveFailed → ungiven) →
    IfSome left (λ script. (rest : List ℕ) × (left_now ≡ Some rest) × StoppedAt (step_by tests) s stop script rest given now) →
    ServedSays tests m out status (told_of left given kept) (told_of left_now now kept) ungiven
stopped_says stop status tests s m out left left_now given now kept ungiven is start f h =
    subst (λ x. ServedSays tests m out x (told_of left given kept) (told_of left_now now kept) ungiven) (sym is) (
      stop_serves stop,
      λ e. absurd (stop_ends_not stop e),
      script_stopped stop tests m out left left_now given now kept ungiven f
          (subst (λ x. IfSome left (λ script. (rest : List ℕ) × (left_now ≡ Some rest) × StoppedAt (step_by tests) x stop script rest given now)) start h),
    )

-- The script was read to its end, and the last map was kept, or not.
kept_serves : (status : Status) (out text : List ℕ) (kept now : Option Texts) → Keeps status out text kept now → MayServe status
kept_serves Ended out text kept now k = tt
kept_serves WriteFault out text kept now k = tt
kept_serves Memory out text kept now k = tt
kept_serves ReadFault out text kept now k = absurd k
kept_serves (MapRefused fault) out text kept now k = absurd k
kept_serves (TooLong which) out text kept now k = absurd k
kept_serves Usage out text kept now k = absurd k

kept_ends : (status : Status) (last : State) (out : List ℕ) (kept now : Option Texts) → Keeps status out (state_text last) kept now → status ≡ Ended →
    (m : Whole) × Grew kept now ((out, map_text m) ∷ [])
kept_ends status last out kept now k e = (current last, subst (λ s. Keeps s out (state_text last) kept now) e k)

script_answered : (status : Status) (tests : Tests) (m : Whole) (last : State) (out : List ℕ) (left left_now given now : Option (List ℕ)) (kept kept_now : Option Texts) (ungiven : Type 0) →
    IfSome left (λ script. ReadAll (step_by tests) (open_at m) script left_now last given now) → Keeps status out (state_text last) kept kept_now →
    ScriptSays tests m out status (told_of left given kept) (told_of left_now now kept_now) ungiven
script_answered status tests m last out None left_now given now kept kept_now ungiven h k = tt
script_answered Ended tests m last out (Some script) left_now given now kept kept_now ungiven h k = ([], h.0, (last, (refl, h.1, h.2), k))
script_answered WriteFault tests m last out (Some script) left_now given now kept kept_now ungiven h k =
    ([], h.0, ((script, (sym (append-nil script), h.1)), so_far-whole (step_by tests) h.2, inr (last, (refl, h.1, h.2)), k))
script_answered Memory tests m last out (Some script) left_now given now kept kept_now ungiven h k = ([], h.0, (last, (refl, h.1, h.2), k))
script_answered ReadFault tests m last out (Some script) left_now given now kept kept_now ungiven h k = absurd k
script_answered (MapRefused fault) tests m last out (Some script) left_now given now kept kept_now ungiven h k = absurd k
script_answered (TooLong which) tests m last out (Some script) left_now given now kept kept_now ungiven h k = absurd k
script_answered Usage tests m last out (Some script) left_now given now kept kept_now ungiven h k = absurd k

pub script_kept : (status : Status) (tests : Tests) (s : State) (m : Whole) (last : State) (out : List ℕ) (left left_now given now : Option (List ℕ)) (kept kept_now : Option Texts) (ungiven : Type 0) →
    s ≡ open_at m → IfSome left (λ script. ReadAll (step_by tests) s script left_now last given now) → Keeps status out (state_text last) kept kept_now →
    ServedSays tests m out status (told_of left given kept) (told_of left_now now kept_now) ungiven
script_kept status tests s m last out left left_now given now kept kept_now ungiven start h k = (
  kept_serves status out (state_text last) kept kept_now k,
  kept_ends status last out kept kept_now k,
  script_answered status tests m last out left left_now given now kept kept_now ungiven
      (subst (λ x. IfSome left (λ script. ReadAll (step_by tests) x script left_now last given now)) start h) k,
)

-- What wasn't kept.
pub unkept_of : (status : Status) (out text : List ℕ) (kept now : Option Texts) → Keeps status out text kept now → status ≢ Ended → now ≡ kept
unkept_of Ended out text kept now k n = absurd (n refl)
unkept_of WriteFault out text kept now k n = k
unkept_of Memory out text kept now k n = k
unkept_of ReadFault out text kept now k n = absurd k
unkept_of (MapRefused fault) out text kept now k n = absurd k
unkept_of (TooLong which) out text kept now k n = absurd k
unkept_of Usage out text kept now k n = absurd k

-- A map that could not be fetched leaves everything as it was.
unread_given : (status : Status) (found given now : Option (List ℕ)) → NotOpened status found given now → status ≡ ReadFault → now ≡ given
unread_given status found given now h e = subst (λ s. NotOpened s found given now) e h

pub unopened_leaves : (status : Status) (texts : Option Texts) (map : List ℕ) (left given now : Option (List ℕ)) (kept kept_now : Option Texts) (takes : ℕ) → kept_now ≡ kept →
    (found : Option (List ℕ)) × MayFind texts map found × NotOpened status found given now → UnreadLeaves status takes takes (told_of left given kept) (told_of left now kept_now)
unopened_leaves status texts map left given now kept kept_now takes e h = λ is.
    inr (ap (λ k. told_of left now k) e ∙ ap (λ g. told_of left g kept) (unread_given status h.0 given now h.2 is))

-- After the map was opened a read fault is the script's.
pub opened_leaves : (status : Status) (counts counts_now : Counts) (before now : Told) → ServeCause status counts counts_now → UnreadLeaves status counts.takes counts_now.takes before now
opened_leaves status counts counts_now before now c = λ is. inl (fault_of (subst (λ s. ServeCause s counts counts_now) is c))
  where
    fault_of : ServeCause ReadFault counts counts_now → Rose counts.takes counts_now.takes
    fault_of f = f.0
