-- What it means that a summary was given, or wasn't, and why.
use Rattle.std.specs.Prelude.{◌≡◌, ℕ, List, Option}
use Rattle.outside_io.specs.Moved.{Grew, Rose}
use Rattle.map_report.specs.Reports.{summary_line}
use Rattle.map_report.specs.declared.summary.Summary.{Summary}
use Rattle.edit_session.specs.Opening.{GaveFront}
use Rattle.edit_session.specs.declared.status.Status.{Status}
use Rattle.edit_session.specs.declared.status.Status.TheVariants.{Ended, Usage, ReadFault, WriteFault, MapRefused, Memory, TooLong}

-- The line of the summary was given, or a front of it.
abbrev pub Sums : Status → Summary → Option (List ℕ) → Option (List ℕ) → Type 0
Sums Ended summary given now = Grew given now (summary_line summary)
Sums WriteFault summary given now = GaveFront given now (summary_line summary)
Sums Usage summary given now = ⊥
Sums ReadFault summary given now = ⊥
Sums (MapRefused fault) summary given now = ⊥
Sums Memory summary given now = ⊥
Sums (TooLong which) summary given now = ⊥

-- Only a line that can't be given is a fault.
abbrev pub SumCause : Status → ℕ → ℕ → Type 0
SumCause Ended gives gives_now = gives_now ≡ gives
SumCause WriteFault gives gives_now = Rose gives gives_now
SumCause Usage gives gives_now = ⊥
SumCause ReadFault gives gives_now = ⊥
SumCause (MapRefused fault) gives gives_now = ⊥
SumCause Memory gives gives_now = ⊥
SumCause (TooLong which) gives gives_now = ⊥
