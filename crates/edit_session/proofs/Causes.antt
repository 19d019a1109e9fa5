-- The causes of the ends of a run.
use Rattle.std.proofs.Common.{◌≡◌, ◌≢◌, ◌≤◌, arith, ℕ, List, Option, refl, ap, sym, subst, ◌∙◌, inl, inr}
use Rattle.outside_io.specs.Moved.{Rose}
use Rattle.outside_io.specs.Texts.{Texts}
use Rattle.edit_session.specs.declared.status.Which.TheVariants.{Map, Script}
use Rattle.edit_session.specs.declared.status.Status.{Status}
use Rattle.edit_session.specs.declared.status.Status.TheVariants.{Ended, Usage, ReadFault, WriteFault, MapRefused, Memory, TooLong}
use Rattle.edit_session.specs.declared.serve.Stop.{Stop}
use Rattle.edit_session.specs.declared.serve.Stop.TheVariants.{TakeFailed, GiveFailed, TooLong as PastLimit}
use Rattle.edit_session.specs.Devices.{Counts, counts_of, NoneFell, Unfetched}
use Rattle.edit_session.specs.Serving.{StopCause, stop_status}
use Rattle.edit_session.specs.Opening.{OpenCause}
use Rattle.edit_session.specs.Keeping.{KeepCause, ServeCause}
use Rattle.edit_session.specs.EditRun.{CausedBy}
use Rattle.edit_session.specs.Summing.{SumCause}
use Rattle.edit_session.specs.CheckRun.{CheckCausedBy}

-- Counts that are the same.
pub same_counts : (f k t g f1 k1 t1 g1 : ℕ) → f1 ≡ f → k1 ≡ k → t1 ≡ t → g1 ≡ g → counts_of f1 k1 t1 g1 ≡ counts_of f k t g
same_counts f k t g f1 k1 t1 g1 a b c d =
    ap (λ x. counts_of x k1 t1 g1) a ∙ ap (λ x. counts_of f x t1 g1) b ∙ ap (λ x. counts_of f k x g1) c ∙ ap (λ x. counts_of f k t x) d

-- Reading the script stopped.
stopped_cause : (stop : Stop) (f k t g f1 k1 t1 g1 : ℕ) → f1 ≡ f → k1 ≡ k → StopCause stop t t1 g g1 → ServeCause (stop_status stop) (counts_of f k t g) (counts_of f1 k1 t1 g1)
stopped_cause TakeFailed f k t g f1 k1 t1 g1 a b c = (c.0, a, b, c.1)
stopped_cause GiveFailed f k t g f1 k1 t1 g1 a b c = (inl (c.0, b), a, c.1)
stopped_cause PastLimit f k t g f1 k1 t1 g1 a b c = same_counts f k t g f1 k1 t1 g1 a b c.0 c.1

pub stopped_serve_cause : (stop : Stop) (status : Status) (f k t g t1 g1 : ℕ) → status ≡ stop_status stop → StopCause stop t t1 g g1 → ServeCause status (counts_of f k t g) (counts_of f k t1 g1)
stopped_serve_cause stop status f k t g t1 g1 is c =
    subst (λ s. ServeCause s (counts_of f k t g) (counts_of f k t1 g1)) (sym is) (stopped_cause stop f k t g f k t1 g1 refl refl c)

-- A reply couldn't be given.
pub give_failed : (stop : Stop) (t t1 g g1 : ℕ) → StopCause stop t t1 g g1 → stop ≡ GiveFailed → Rose g g1
give_failed GiveFailed t t1 g g1 c e = c.0
give_failed TakeFailed t t1 g g1 c e = absurd (cc)
give_failed PastLimit t t1 g g1 c e = absurd (cc)

-- The script was read to its end, and the last map was kept, or not.
pub kept_cause : (status : Status) (f k t g f1 k1 t1 g1 : ℕ) → f1 ≡ f → t1 ≡ t → g1 ≡ g → KeepCause status k k1 → ServeCause status (counts_of f k t g) (counts_of f1 k1 t1 g1)
kept_cause Ended f k t g f1 k1 t1 g1 a b c d = same_counts f k t g f1 k1 t1 g1 a d b c
kept_cause WriteFault f k t g f1 k1 t1 g1 a b c d = (inr (d, c), a, b)
kept_cause Memory f k t g f1 k1 t1 g1 a b c d = same_counts f k t g f1 k1 t1 g1 a d b c
kept_cause ReadFault f k t g f1 k1 t1 g1 a b c d = absurd d
kept_cause (MapRefused fault) f k t g f1 k1 t1 g1 a b c d = absurd d
kept_cause (TooLong which) f k t g f1 k1 t1 g1 a b c d = absurd d
kept_cause Usage f k t g f1 k1 t1 g1 a b c d = absurd d

-- The map was opened, and no count moved before.
served_cause : (status : Status) (texts : Option Texts) (map : List ℕ) (before now : Counts) → ServeCause status before now → CausedBy status texts map before now
served_cause ReadFault texts map before now c = (inr (c.0, c.1), c.2, c.3)
served_cause WriteFault texts map before now c = c
served_cause Ended texts map before now c = c
served_cause Memory texts map before now c = c
served_cause (TooLong Script) texts map before now c = c
served_cause (TooLong Map) texts map before now c = absurd c
served_cause (MapRefused fault) texts map before now c = absurd c
served_cause Usage texts map before now c = absurd c

pub opened_cause : (status : Status) (texts : Option Texts) (map : List ℕ) (f k t g f1 k1 g1 : ℕ) (now : Counts) → f1 ≡ f → k1 ≡ k → g1 ≡ g →
    ServeCause status (counts_of f1 k1 t g1) now → CausedBy status texts map (counts_of f k t g) now
opened_cause status texts map f k t g f1 k1 g1 now a b c h =
    served_cause status texts map (counts_of f k t g) now (subst (λ x. ServeCause status x now) (same_counts f k t g f1 k1 t g1 a b refl c) h)

-- No map was opened.
pub unopened_cause : (status : Status) (texts : Option Texts) (map : List ℕ) (f k t g f1 k1 g1 : ℕ) → k1 ≡ k → OpenCause status texts map f f1 g g1 →
    CausedBy status texts map (counts_of f k t g) (counts_of f1 k1 t g1)
unopened_cause ReadFault texts map f k t g f1 k1 g1 e c = (inl (c.0, refl), e, c.1)
unopened_cause WriteFault texts map f k t g f1 k1 g1 e c = (inl (c.0, e), c.1, refl)
unopened_cause (MapRefused fault) texts map f k t g f1 k1 g1 e c = same_counts f k t g f1 k1 t g1 c.1 e refl c.0
unopened_cause Memory texts map f k t g f1 k1 g1 e c = same_counts f k t g f1 k1 t g1 c.1 e refl c.0
unopened_cause (TooLong Map) texts map f k t g f1 k1 g1 e c = same_counts f k t g f1 k1 t g1 c.1 e refl c.0
unopened_cause (TooLong Script) texts map f k t g f1 k1 g1 e c = absurd c
unopened_cause Usage texts map f k t g f1 k1 g1 e c = absurd c
unopened_cause Ended texts map f k t g f1 k1 g1 e c = absurd c

-- A read fault before the map was opened is the fetch's, and a write fault is the replies'.
pub open_unfetched : (status : Status) (texts : Option Texts) (map : List ℕ) (f k t g f1 k1 t1 g1 : ℕ) → OpenCause status texts map f f1 g g1 → status ≡ ReadFault →
    Unfetched texts map (counts_of f k t g) (counts_of f1 k1 t1 g1)
open_unfetched status texts map f k t g f1 k1 t1 g1 c e = (at_read (subst (λ s. OpenCause s texts map f f1 g g1) e c))
  where
    at_read : OpenCause ReadFault texts map f f1 g g1 → Unfetched texts map (counts_of f k t g) (counts_of f1 k1 t1 g1)
    at_read h = h.0

pub open_ungiven : (status : Status) (texts : Option Texts) (map : List ℕ) (f g f1 g1 : ℕ) → OpenCause status texts map f f1 g g1 → status ≡ WriteFault → Rose g g1
open_ungiven status texts map f g f1 g1 c e = (at_write (subst (λ s. OpenCause s texts map f f1 g g1) e c))
  where
    at_write : OpenCause WriteFault texts map f f1 g g1 → Rose g g1
    at_write h = h.0

-- No count fell after the map was opened, and none before.
pub none_fell : (f k t g f1 k1 g1 : ℕ) (now : Counts) → f1 ≡ f → k1 ≡ k → g1 ≡ g → NoneFell (counts_of f1 k1 t g1) now → NoneFell (counts_of f k t g) now
none_fell f k t g f1 k1 g1 now a b c h = subst (λ x. NoneFell x now) (same_counts f k t g f1 k1 t g1 a b refl c) h

-- The causes of a run over the words `check MAP`.
pub unopened_check_cause : (status : Status) (texts : Option Texts) (map : List ℕ) (f k t g f1 k1 g1 : ℕ) → k1 ≡ k → OpenCause status texts map f f1 g g1 →
    CheckCausedBy status texts map (counts_of f k t g) (counts_of f1 k1 t g1)
unopened_check_cause ReadFault texts map f k t g f1 k1 g1 e c = c
unopened_check_cause WriteFault texts map f k t g f1 k1 g1 e c = c
unopened_check_cause (MapRefused fault) texts map f k t g f1 k1 g1 e c = same_counts f k t g f1 k1 t g1 c.1 e refl c.0
unopened_check_cause Memory texts map f k t g f1 k1 g1 e c = same_counts f k t g f1 k1 t g1 c.1 e refl c.0
unopened_check_cause (TooLong Map) texts map f k t g f1 k1 g1 e c = same_counts f k t g f1 k1 t g1 c.1 e refl c.0
unopened_check_cause (TooLong Script) texts map f k t g f1 k1 g1 e c = absurd c
unopened_check_cause Usage texts map f k t g f1 k1 g1 e c = absurd c
unopened_check_cause Ended texts map f k t g f1 k1 g1 e c = absurd c

pub summed_cause : (status : Status) (texts : Option Texts) (map : List ℕ) (f k t g f1 k1 mid g1 : ℕ) → f1 ≡ f → k1 ≡ k → mid ≡ g → SumCause status mid g1 →
    CheckCausedBy status texts map (counts_of f k t g) (counts_of f1 k1 t g1)
summed_cause Ended texts map f k t g f1 k1 mid g1 a b c h = same_counts f k t g f1 k1 t g1 a b refl (h ∙ c)
summed_cause WriteFault texts map f k t g f1 k1 mid g1 a b c h = (subst (λ n. Rose n g1) c h, a)
summed_cause Usage texts map f k t g f1 k1 mid g1 a b c h = absurd h
summed_cause ReadFault texts map f k t g f1 k1 mid g1 a b c h = absurd h
summed_cause (MapRefused fault) texts map f k t g f1 k1 mid g1 a b c h = absurd h
summed_cause Memory texts map f k t g f1 k1 mid g1 a b c h = absurd h
summed_cause (TooLong which) texts map f k t g f1 k1 mid g1 a b c h = absurd h

pub summed_ungiven : (status : Status) (g mid g1 : ℕ) → mid ≡ g → SumCause status mid g1 → status ≡ WriteFault → Rose g g1
summed_ungiven status g mid g1 c h e = subst (λ n. Rose n g1) c (at_write (subst (λ s. SumCause s mid g1) e h))
  where
    at_write : SumCause WriteFault mid g1 → Rose mid g1
    at_write r = r

pub some_fell_not : (f k t g f1 k1 g1 : ℕ) → f ≤ f1 → k1 ≡ k → g ≤ g1 → NoneFell (counts_of f k t g) (counts_of f1 k1 t g1)
some_fell_not f k t g f1 k1 g1 a e b = record { fetches = a; keeps = omega arith; takes = omega arith; gives = b }

pub check_not_usage : (status : Status) (texts : Option Texts) (map : List ℕ) (before now : Counts) → CheckCausedBy status texts map before now → status ≢ Usage
check_not_usage Usage texts map before now c e = c
check_not_usage ReadFault texts map before now c e = cc
check_not_usage WriteFault texts map before now c e = cc
check_not_usage (MapRefused fault) texts map before now c e = cc
check_not_usage Memory texts map before now c e = cc
check_not_usage (TooLong which) texts map before now c e = cc
check_not_usage Ended texts map before now c e = cc

-- The status is that of the words' form.
pub edit_not_usage : (status : Status) (texts : Option Texts) (map : List ℕ) (before now : Counts) → CausedBy status texts map before now → status ≢ Usage
edit_not_usage Usage texts map before now c e = c
edit_not_usage ReadFault texts map before now c e = cc
edit_not_usage WriteFault texts map before now c e = cc
edit_not_usage (MapRefused fault) texts map before now c e = cc
edit_not_usage Memory texts map before now c e = cc
edit_not_usage (TooLong which) texts map before now c e = cc
edit_not_usage Ended texts map before now c e = cc
