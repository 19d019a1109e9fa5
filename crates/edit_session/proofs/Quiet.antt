-- A run that meets no fault ends.
use Rattle.std.proofs.Common.{◌≡◌, ◌≢◌, ◌⊎◌, ℕ, ◌≤◌, ◌^◌, ◌-◌, Bool, true, false, MatchBool, List, ◌∷◌, ◌++◌, length, Some, None, IfSome, nat_lt, refl, ap, sym, subst, ◌∙◌, inl, inr, ⊎_elim, arith, length-append}
use Rattle.std.proofs.lemmas.Bool.{le-ltb}
use Rattle.outside_io.specs.Moved.{Rose}
use Rattle.outside_io.specs.Texts.{Texts, text_named}
use Rattle.map_model.specs.Tree.{Whole}
use Rattle.map_opening.specs.Opening.{Opened, Tree, opening_text}
use Rattle.edit_session.specs.declared.status.TheConstants.{LIMIT}
use Rattle.edit_session.specs.declared.status.Which.TheVariants.{Map, Script}
use Rattle.edit_session.specs.declared.status.Status.{Status}
use Rattle.edit_session.specs.declared.status.Status.TheVariants.{Ended, Usage, ReadFault, WriteFault, MapRefused, Memory, TooLong}
use Rattle.edit_session.specs.Tests.{Tests, machine_by, state_text}
use Rattle.edit_session.specs.Devices.{Told, Counts, Unfetched, ReadCause, WriteCause}
use Rattle.edit_session.specs.Found.{StoppedTelling, OpensOnce, LongSays, FoundSays, NamedSays}
use Rattle.edit_session.specs.EditRun.{OpenSays, ServedSays, OpenedSays, CausedBy}
use Rattle.edit_session.specs.CheckRun.{check_text, CheckedSays, CheckCausedBy}
use Rattle.edit_session.specs.Completeness.{NoneFull, CanOpen, CanRead, QuietRunsEnd, QuietRunsMeetNoFault, QuietChecksEnd, QuietChecksMeetNoFault}

-- A count that is what it was did not rise.
pub did_not_rise : (n : ℕ) → n ≢ 2 ^ 64 - 1 → Rose n n → ⊥
did_not_rise n some h = ⊎_elim (λ lt. omega (arith, lt)) (λ e. some e) h

-- A test of which the answer is known.
of_false : (b : Bool) (P Q : Type 0) → b ≡ false → MatchBool b P Q → Q
of_false true P Q e h = absurd (cc)
of_false false P Q e h = h

-- What is said of the map that the bytes open as.
pub says_opened : (texts : Texts) (name : List ℕ) (status : Status) (before now : Told) (unfetched : Type 0) (said : Tests → Opened → Type 0) → (can : CanOpen texts name) →
    NamedSays (Some texts) name status before now unfetched said → said can.tests (Tree can.whole can.notes)
says_opened texts name status before now unfetched said can h =
    let found : FoundSays (Some can.bytes) status before now unfetched said = subst (λ f. FoundSays f status before now unfetched said) (sym h.1 ∙ can.named) h.2 in
    let way : OpensOnce can.bytes said =
    of_false (nat_lt LIMIT (length can.bytes)) (LongSays status before now unfetched) (OpensOnce can.bytes said) (le-ltb LIMIT (length can.bytes) can.fits) found in
    subst (said can.tests) (sym (way.only can.tests (Tree can.whole can.notes) can.opens)) (way.says can.tests)

-- A script within the limit isn't too long.
longer_than : (script taken left : List ℕ) (extra n : ℕ) → script ≡ taken ++ extra ∷ left → length taken ≡ n → length script ≤ n → ⊥
longer_than script taken left extra n is full fits = omega (arith, ap length is, length-append taken (extra ∷ left), full, fits)

within_limit : (tests : Tests) (m : Whole) (out script : List ℕ) (before now : Told) (ungiven : Type 0) → before.left ≡ Some script → length script ≤ 67108864 →
    ServedSays tests m out (TooLong Script) before now ungiven → ⊥
within_limit tests m out script before now ungiven is fits h =
    let says : (left : List ℕ) × (now.left ≡ Some left) × OpenSays (machine_by tests m) state_text out (TooLong Script) script left before now ungiven =
    subst (λ o. IfSome o (λ s. (left : List ℕ) × (now.left ≡ Some left) × OpenSays (machine_by tests m) state_text out (TooLong Script) s left before now ungiven)) is h.2 in
    longer_than script says.2.0 says.0 says.2.1 67108864 says.2.3 says.2.4 fits

-- No count rose, and a text of the name is there.
pub some_named : (texts : Texts) (name bytes : List ℕ) → text_named texts name ≡ Some bytes → text_named texts name ≢ None
some_named texts name bytes named none = absurd (cc)

pub no_fetch_fault : (texts : Texts) (name : List ℕ) (counts : Counts) → NoneFull counts → text_named texts name ≢ None → Unfetched (Some texts) name counts counts → ⊥
no_fetch_fault texts name counts some named h = ⊎_elim (λ rose. did_not_rise counts.fetches some.fetches rose) (λ none. named none) h

no_read_fault : (texts : Texts) (name : List ℕ) (counts : Counts) → NoneFull counts → text_named texts name ≢ None → ReadCause (Some texts) name counts counts → ⊥
no_read_fault texts name counts some named h =
    ⊎_elim (λ fetch. no_fetch_fault texts name counts some named fetch.0) (λ take. did_not_rise counts.takes some.takes take.0) h.0

pub no_write_fault : (counts : Counts) → NoneFull counts → WriteCause counts counts → ⊥
no_write_fault counts some h =
    ⊎_elim (λ give. did_not_rise counts.gives some.gives give.0) (λ keep. did_not_rise counts.keeps some.keeps keep.0) h.0

-- No run stops before all lines of the opening are given, unless it meets a fault or wants memory.
module _ (text : List ℕ) (before now : Told) (unfetched ungiven : Type 0) (no_read : unfetched → ⊥) (no_write : ungiven → ⊥) where
  pub only_memory : (s : Status) → StoppedTelling s text before now unfetched ungiven → s ≡ Memory
  only_memory Memory h = refl
  only_memory ReadFault h = absurd (no_read h.0)
  only_memory WriteFault h = absurd (no_write h.0)
  only_memory (MapRefused fault) h = absurd h
  only_memory (TooLong which) h = absurd h
  only_memory Usage h = absurd h
  only_memory Ended h = absurd h

-- What is left are the two ends.
served_end : (status : Status) (texts : Texts) (name out : List ℕ) (tests : Tests) (m : Whole) (before now : Told) (counts : Counts) (ungiven : Type 0) → CanRead before.left → NoneFull counts →
    text_named texts name ≢ None → CausedBy status (Some texts) name counts counts → ServedSays tests m out status before now ungiven → (status ≡ Ended) ⊎ (status ≡ Memory)
served_end Ended texts name out tests m before now counts ungiven can some named cause says = inl refl
served_end Memory texts name out tests m before now counts ungiven can some named cause says = inr refl
served_end ReadFault texts name out tests m before now counts ungiven can some named cause says = absurd (no_read_fault texts name counts some named cause)
served_end WriteFault texts name out tests m before now counts ungiven can some named cause says = absurd (no_write_fault counts some cause)
served_end (TooLong Script) texts name out tests m before now counts ungiven can some named cause says =
    absurd (within_limit tests m out can.script before now ungiven can.script_is can.fits says)
served_end (TooLong Map) texts name out tests m before now counts ungiven can some named cause says = absurd says.0
served_end (MapRefused fault) texts name out tests m before now counts ungiven can some named cause says = absurd says.0
served_end Usage texts name out tests m before now counts ungiven can some named cause says = absurd cause

pub quiet_runs_end : QuietRunsEnd
quiet_runs_end map out status texts before now counts run some can script =
    let named = some_named texts map can.bytes can.named in
    let unfetched = Unfetched (Some texts) map counts counts in
    let ungiven = Rose counts.gives counts.gives in
    ⊎_elim
    (λ stopped. inr (only_memory (opening_text (Tree can.whole can.notes)) before now unfetched ungiven (no_fetch_fault texts map counts some named) (did_not_rise counts.gives some.gives) status stopped))
    (λ served. served_end status texts map out can.tests can.whole (record before { given = served.0 }) now counts ungiven script some named run.cause served.2)
    (says_opened texts map status before now unfetched (OpenedSays out status before now unfetched ungiven) can run.says)

pub quiet_checks_end : QuietChecksEnd
quiet_checks_end map status texts before now counts run some can =
    let named = some_named texts map can.bytes can.named in
    let unfetched = Unfetched (Some texts) map counts counts in
    let ungiven = Rose counts.gives counts.gives in
    ⊎_elim
    (λ stopped. inr (only_memory (check_text (Tree can.whole can.notes)) before now unfetched ungiven (no_fetch_fault texts map counts some named) (did_not_rise counts.gives some.gives) status stopped))
    (λ all. inl all.0)
    (says_opened texts map status before now unfetched (CheckedSays status before now unfetched ungiven) can run.says)

-- What is left is no fault.
pub quiet_runs_meet_no_fault : QuietRunsMeetNoFault
quiet_runs_meet_no_fault map out status texts before now counts run some named = (
  λ e. no_read_fault texts map counts some named (subst (λ s. CausedBy s (Some texts) map counts counts) e run.cause),
  λ e. no_write_fault counts some (subst (λ s. CausedBy s (Some texts) map counts counts) e run.cause),
)

checked_read : (texts : Texts) (map : List ℕ) (counts : Counts) → CheckCausedBy ReadFault (Some texts) map counts counts → Unfetched (Some texts) map counts counts
checked_read texts map counts c = c.0

checked_write : (texts : Texts) (map : List ℕ) (counts : Counts) → CheckCausedBy WriteFault (Some texts) map counts counts → Rose counts.gives counts.gives
checked_write texts map counts c = c.0

pub quiet_checks_meet_no_fault : QuietChecksMeetNoFault
quiet_checks_meet_no_fault map status texts before now counts run some named = (
  λ e. no_fetch_fault texts map counts some named (checked_read texts map counts (subst (λ s. CheckCausedBy s (Some texts) map counts counts) e run.cause)),
  λ e. did_not_rise counts.gives some.gives (checked_write texts map counts (subst (λ s. CheckCausedBy s (Some texts) map counts counts) e run.cause)),
)
