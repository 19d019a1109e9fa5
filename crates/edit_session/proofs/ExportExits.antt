-- What a run over the words `export MAP OUT` says at each of its ends.
use Rattle.std.proofs.Common.{◌≡◌, ◌≢◌, ◌⊎◌, ◌≤◌, ℕ, List, [], ◌∷◌, Option, refl, ap, sym, subst, ◌∙◌, inl, inr, arith}
use Rattle.outside_io.specs.Moved.{Grew, Rose}
use Rattle.outside_io.specs.Texts.{Texts}
use Rattle.map_report.specs.declared.summary.Summary.{Summary}
use Rattle.map_model.specs.Tree.{Whole}
use Rattle.map_opening.specs.Opening.{Tree}
use Rattle.map_opening.specs.Laws.{OpensOneWay, OpensForAll}
use Rattle.obj_export.specs.declared.obj.Obj.{Obj}
use Rattle.obj_export.specs.Text.{obj_of, IsObjOf}
use Rattle.edit_session.specs.declared.status.Which.TheVariants.{Map, Script}
use Rattle.edit_session.specs.declared.status.Status.{Status}
use Rattle.edit_session.specs.declared.status.Status.TheVariants.{Ended, Usage, ReadFault, WriteFault, MapRefused, Memory, TooLong}
use Rattle.edit_session.specs.Tests.{Tests}
use Rattle.edit_session.specs.Devices.{Counts, counts_of, told_of, MayFind, NoneFell}
use Rattle.edit_session.specs.Opening.{NotOpened, IsOpened, OpenCause}
use Rattle.edit_session.specs.Summing.{Sums, SumCause}
use Rattle.edit_session.specs.ExportRun.{exported, Exports, ExportCause, KeptOnlyIf, ExportedSays, ExportSays, ExportCausedBy}
use Rattle.edit_session.proofs.Exits.{once, found_read, not_opened}
use Rattle.edit_session.proofs.Causes.{same_counts}

-- The text was kept, and its summary given, or a front of it.
pub text_kept : (status : Status) (out : List ℕ) (o : Obj) (summary : Summary) (given now : Option (List ℕ)) (kept kept_now : Option Texts) (gives gives_now : ℕ) → summary ≡ exported o →
    Grew kept kept_now ((out, o.text) ∷ []) → Sums status summary given now → SumCause status gives gives_now → Exports status out o given now kept kept_now (Rose gives gives_now)
text_kept Ended out o summary given now kept kept_now gives gives_now is k s c = (k, subst (λ x. Sums Ended x given now) is s)
text_kept WriteFault out o summary given now kept kept_now gives gives_now is k s c = inr (c, k, subst (λ x. Sums WriteFault x given now) is s)
text_kept Usage out o summary given now kept kept_now gives gives_now is k s c = absurd c
text_kept ReadFault out o summary given now kept kept_now gives gives_now is k s c = absurd c
text_kept (MapRefused fault) out o summary given now kept kept_now gives gives_now is k s c = absurd c
text_kept Memory out o summary given now kept kept_now gives gives_now is k s c = absurd c
text_kept (TooLong which) out o summary given now kept kept_now gives gives_now is k s c = absurd c

pub kept_only : (status : Status) (kept kept_now : Option Texts) (gives gives_now : ℕ) → SumCause status gives gives_now → KeptOnlyIf status kept kept_now (Rose gives gives_now)
kept_only Ended kept kept_now gives gives_now c n = absurd (n refl)
kept_only WriteFault kept kept_now gives gives_now c n = inr (refl, c)
kept_only Usage kept kept_now gives gives_now c n = absurd c
kept_only ReadFault kept kept_now gives gives_now c n = absurd c
kept_only (MapRefused fault) kept kept_now gives gives_now c n = absurd c
kept_only Memory kept kept_now gives gives_now c n = absurd c
kept_only (TooLong which) kept kept_now gives gives_now c n = absurd c

pub kept_cause : (status : Status) (keeps keeps_now gives gives_now : ℕ) → keeps_now ≡ keeps → SumCause status gives gives_now → ExportCause status keeps keeps_now gives gives_now
kept_cause Ended keeps keeps_now gives gives_now e c = (e, c)
kept_cause WriteFault keeps keeps_now gives gives_now e c = inl (c, e)
kept_cause Usage keeps keeps_now gives gives_now e c = absurd c
kept_cause ReadFault keeps keeps_now gives gives_now e c = absurd c
kept_cause (MapRefused fault) keeps keeps_now gives gives_now e c = absurd c
kept_cause Memory keeps keeps_now gives gives_now e c = absurd c
kept_cause (TooLong which) keeps keeps_now gives gives_now e c = absurd c

-- A text is that of the map by any right tests.
pub by_tests : (tests : Tests) (m : Whole) (o : Obj) (status : Status) (out : List ℕ) (given now : Option (List ℕ)) (kept kept_now : Option Texts) (ungiven : Type 0) → IsObjOf m o →
    Exports status out o given now kept kept_now ungiven → Exports status out (obj_of tests.below m) given now kept kept_now ungiven
by_tests tests m o status out given now kept kept_now ungiven is h =
    subst (λ x. Exports status out x given now kept kept_now ungiven) (is tests.below tests.right) h

-- A run that opened no map, or gave not all of its notes.
pub export_unopened : OpensOneWay → OpensForAll → (texts : Option Texts) (map out : List ℕ) (status : Status) (left given now : Option (List ℕ)) (kept kept_now : Option Texts)
    (unfetched ungiven : Type 0) → kept_now ≡ kept → (status ≡ ReadFault → unfetched) → (status ≡ WriteFault → ungiven) →
    (found : Option (List ℕ)) × MayFind texts map found × NotOpened status found given now →
    ExportSays texts map out status (told_of left given kept) (told_of left now kept_now) unfetched ungiven
export_unopened one some texts map out status left given now kept kept_now unfetched ungiven e f g h =
    subst (λ k. ExportSays texts map out status (told_of left given kept) (told_of left now k) unfetched ungiven) (sym e) (
      h.0,
      h.1,
      not_opened one some left given now kept unfetched ungiven (ExportedSays out status (told_of left given kept) (told_of left now kept) unfetched ungiven) status h.0
          (λ tests opened stopped. inl stopped) (λ tests fault is grew. inr (now, grew, (is, refl))) f g h.2,
    )

-- A run that opened the map and gave its notes.
pub export_opened : OpensOneWay → (texts : Option Texts) (name out : List ℕ) (m : Whole) (status : Status) (left given mid now : Option (List ℕ)) (kept kept_mid kept_now : Option Texts)
    (gives gives_mid gives_now : ℕ) (unfetched : Type 0) → kept_mid ≡ kept → gives_mid ≡ gives → (found : Option (List ℕ)) × MayFind texts name found × IsOpened found m given mid →
    ((tests : Tests) → Exports status out (obj_of tests.below m) mid now kept_mid kept_now (Rose gives_mid gives_now)) →
    ExportSays texts name out status (told_of left given kept) (told_of left now kept_now) unfetched (Rose gives gives_now)
export_opened one texts name out m status left given mid now kept kept_mid kept_now gives gives_mid gives_now unfetched e f h says =
    let said = ExportedSays out status (told_of left given kept) (told_of left now kept_now) unfetched (Rose gives gives_now) in (
      h.0,
      h.1,
      found_read h.0 h.2.bytes status (told_of left given kept) (told_of left now kept_now) unfetched said h.2.found_is h.2.fits
          (once one h.2.bytes said (Tree m h.2.so.0) h.2.so.1 (λ tests. inr (
            mid,
            h.2.so.2,
            (
              refl,
              subst (λ n. Exports status out (obj_of tests.below m) mid now kept kept_now (Rose n gives_now)) f
                  (subst (λ k. Exports status out (obj_of tests.below m) mid now k kept_now (Rose gives_mid gives_now)) e (says tests)),
            ),
          ))),
    )

-- The causes.
pub export_opened_cause : (status : Status) (texts : Option Texts) (map : List ℕ) (f k t g f1 k1 g1 f2 k2 g2 : ℕ) → f1 ≡ f → k1 ≡ k → g1 ≡ g → f2 ≡ f1 → ExportCause status k1 k2 g1 g2 →
    ExportCausedBy status texts map (counts_of f k t g) (counts_of f2 k2 t g2)
export_opened_cause Ended texts map f k t g f1 k1 g1 f2 k2 g2 a b d e c = same_counts f k t g f2 k2 t g2 (e ∙ a) (c.0 ∙ b) refl (c.1 ∙ d)
export_opened_cause Memory texts map f k t g f1 k1 g1 f2 k2 g2 a b d e c = same_counts f k t g f2 k2 t g2 (e ∙ a) (c.0 ∙ b) refl (c.1 ∙ d)
export_opened_cause WriteFault texts map f k t g f1 k1 g1 f2 k2 g2 a b d e c =
    (subst (λ n. (Rose n g2 × (k2 ≡ k)) ⊎ (Rose k k2 × (g2 ≡ n))) d (subst (λ n. (Rose g1 g2 × (k2 ≡ n)) ⊎ (Rose n k2 × (g2 ≡ g1))) b c), e ∙ a, refl)
export_opened_cause Usage texts map f k t g f1 k1 g1 f2 k2 g2 a b d e c = absurd c
export_opened_cause ReadFault texts map f k t g f1 k1 g1 f2 k2 g2 a b d e c = absurd c
export_opened_cause (MapRefused fault) texts map f k t g f1 k1 g1 f2 k2 g2 a b d e c = absurd c
export_opened_cause (TooLong which) texts map f k t g f1 k1 g1 f2 k2 g2 a b d e c = absurd c

pub unopened_export_cause : (status : Status) (texts : Option Texts) (map : List ℕ) (f k t g f1 k1 g1 : ℕ) → k1 ≡ k → OpenCause status texts map f f1 g g1 →
    ExportCausedBy status texts map (counts_of f k t g) (counts_of f1 k1 t g1)
unopened_export_cause ReadFault texts map f k t g f1 k1 g1 e c = (c.0, e, c.1)
unopened_export_cause WriteFault texts map f k t g f1 k1 g1 e c = (inl (c.0, e), c.1, refl)
unopened_export_cause (MapRefused fault) texts map f k t g f1 k1 g1 e c = same_counts f k t g f1 k1 t g1 c.1 e refl c.0
unopened_export_cause Memory texts map f k t g f1 k1 g1 e c = same_counts f k t g f1 k1 t g1 c.1 e refl c.0
unopened_export_cause (TooLong Map) texts map f k t g f1 k1 g1 e c = same_counts f k t g f1 k1 t g1 c.1 e refl c.0
unopened_export_cause (TooLong Script) texts map f k t g f1 k1 g1 e c = absurd c
unopened_export_cause Usage texts map f k t g f1 k1 g1 e c = absurd c
unopened_export_cause Ended texts map f k t g f1 k1 g1 e c = absurd c

-- What was kept, where the counts and the kept pairs before were those at first.
pub still_only : (status : Status) (kept kept_mid kept_now : Option Texts) (gives gives_mid gives_now : ℕ) → kept_mid ≡ kept → gives_mid ≡ gives →
    KeptOnlyIf status kept_mid kept_now (Rose gives_mid gives_now) → KeptOnlyIf status kept kept_now (Rose gives gives_now)
still_only status kept kept_mid kept_now gives gives_mid gives_now e f h =
    subst (λ n. KeptOnlyIf status kept kept_now (Rose n gives_now)) f (subst (λ k. KeptOnlyIf status k kept_now (Rose gives_mid gives_now)) e h)

pub export_fell_not : (f k t g f1 k1 g1 f2 k2 g2 : ℕ) → f1 ≡ f → k1 ≡ k → g1 ≡ g → f2 ≡ f1 → k1 ≤ k2 → g1 ≤ g2 → NoneFell (counts_of f k t g) (counts_of f2 k2 t g2)
export_fell_not f k t g f1 k1 g1 f2 k2 g2 a b d e x y = record { fetches = omega arith; keeps = omega arith; takes = omega arith; gives = omega arith }

-- The status is that of the words' form.
pub export_not_usage : (status : Status) (texts : Option Texts) (map : List ℕ) (before now : Counts) → ExportCausedBy status texts map before now → status ≢ Usage
export_not_usage Usage texts map before now c e = c
export_not_usage ReadFault texts map before now c e = cc
export_not_usage WriteFault texts map before now c e = cc
export_not_usage (MapRefused fault) texts map before now c e = cc
export_not_usage Memory texts map before now c e = cc
export_not_usage (TooLong which) texts map before now c e = cc
export_not_usage Ended texts map before now c e = cc
