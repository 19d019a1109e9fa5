use Rattle.std.proofs.Common.{◌≡◌, take}
use Rattle.std.specs.Prelude.{flat_map}
use Rattle.outside_io.specs.Moved.{Grew}
use Rattle.map_report.specs.Reports.{note_line}
use Rattle.edit_session.proofs.opening.give_notes.Given as goal

-- the lines of the notes so far were given
abbrev pub invariant-loop-note : goal.invariant-loop-note
invariant-loop-note g l = record {
  given : Grew (g.R.Sink.given l.fn.replies) (g.R.Sink.given l.replies) (flat_map note_line (take l.note-index l.notes));
  quiet : g.R.Sink.faults l.replies ≡ g.R.Sink.faults l.fn.replies;
}
