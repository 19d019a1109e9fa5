-- What it means that reading a script stopped early.
use Rattle.std.specs.Prelude.{◌≡◌, ℕ, ◌≤◌, List, [], ◌∷◌, ◌++◌, length, take, drop, Option, Some}
use Rattle.outside_io.specs.Moved.{Rose}
use Rattle.line_machine.specs.Lines.{lines_of, whole_lines, whole_from}
use Rattle.line_machine.specs.Machine.{Step}
use Rattle.line_machine.specs.Served.{Served, ServedSoFar}
use Rattle.edit_session.specs.Devices.{TakenWithin}
use Rattle.edit_session.specs.declared.status.TheConstants.{LIMIT}
use Rattle.edit_session.specs.declared.status.Which.TheVariants.{Script}
use Rattle.edit_session.specs.declared.status.Status.{Status}
use Rattle.edit_session.specs.declared.status.Status.TheVariants.{ReadFault, WriteFault, TooLong as InputTooLong}
use Rattle.edit_session.specs.declared.serve.Stop.{Stop}
use Rattle.edit_session.specs.declared.serve.Stop.TheVariants.{TakeFailed, GiveFailed, TooLong}

-- The whole script was read, it was within the limit, and all of its lines are answered.
abbrev pub ReadAll : {S : Type 0} → Step S → S → List ℕ → Option (List ℕ) → S →
    Option (List ℕ) → Option (List ℕ) → Type 0
ReadAll m s script left t given now =
    (left ≡ Some []) × (length script ≤ LIMIT) × Served m s (lines_of script) t given now

-- Reading the whole script stopped: what of it is answered, and what is left.
abbrev pub StoppedAt : {S : Type 0} → Step S → S → Stop → List ℕ → List ℕ →
    Option (List ℕ) → Option (List ℕ) → Type 0
StoppedAt {S} m s TakeFailed script left given now =
    (taken : List ℕ) × (t : S) × TakenWithin script taken left
    × Served m s (whole_lines taken) t given now
StoppedAt {S} m s GiveFailed script left given now =
    ((taken : List ℕ) × TakenWithin script taken left)
    × ServedSoFar m s (lines_of script) given now
StoppedAt {S} m s TooLong script left given now =
    (taken : List ℕ) × (extra : ℕ) × (t : S) × (script ≡ taken ++ extra ∷ left)
    × (length taken ≡ LIMIT) × Served m s (whole_lines taken) t given now

-- A piece could not be taken, or at most so many bytes were, and its lines are answered as far as
-- they go.
abbrev pub StoppedInPiece : {S : Type 0} → Step S → ℕ → ℕ → Stop → List ℕ → Option (List ℕ) →
    S → List ℕ → S → Option (List ℕ) → Option (List ℕ) → Type 0
StoppedInPiece m held most TakeFailed bytes left s begun t given now =
    (left ≡ Some bytes) × (t ≡ s) × (now ≡ given)
StoppedInPiece m held most GiveFailed bytes left s begun t given now =
    (n : ℕ) × (n ≤ most) × (left ≡ Some (drop n bytes))
    × ((before : List ℕ) → begun ≡ take held before →
    ServedSoFar m s (whole_from before (take n bytes)) given now)
StoppedInPiece m held most TooLong bytes left s begun t given now = ⊥

-- Why reading stopped: the script's count of faults at first and now, and the replies'.
abbrev pub StopCause : Stop → ℕ → ℕ → ℕ → ℕ → Type 0
StopCause TakeFailed takes takes_now gives gives_now = Rose takes takes_now × (gives_now ≡ gives)
StopCause GiveFailed takes takes_now gives gives_now = Rose gives gives_now × (takes_now ≡ takes)
StopCause TooLong takes takes_now gives gives_now = (takes_now ≡ takes) × (gives_now ≡ gives)

-- The status of a run that stopped so.
abbrev pub stop_status : Stop → Status
stop_status TakeFailed = ReadFault
stop_status GiveFailed = WriteFault
stop_status TooLong = InputTooLong Script
