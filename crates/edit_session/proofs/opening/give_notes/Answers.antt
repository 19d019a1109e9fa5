use Rattle.std.proofs.Common.{◌∙◌, take_all, subst, arith}
use Rattle.std.specs.Prelude.{flat_map}
use Rattle.outside_io.specs.Moved.{Grew}
use Rattle.map_report.specs.Reports.{note_line}
use Rattle.edit_session.specs.Opening.{GaveFront}
use Rattle.edit_session.proofs.Reading.{on_err_always}
use Rattle.edit_session.proofs.Telling.{lines_given, lines_in_part}
use Rattle.edit_session.proofs.opening.give_notes.Goals as goal

pub loop-note-preserved : goal.loop-note-preserved
loop-note-preserved g c =
    let given = g.R.Sink.given in
    record {
      given = lines_given note_line c.args.notes.now c.loop-note.note-index _ (given c.args.replies.now) (given c.loop-note.replies) (given c.give_all.new.sink)
          c.loop-note-test.true c.loop-note.invariant.given
          (subst (λ l. Grew (given c.loop-note.replies) (given c.give_all.new.sink) l) (c.text.ensures ∙ c.note_text.ensures) c.in_ok-give_all.ensures.ok);
      quiet = c.in_ok-give_all.ensures.quiet ∙ c.loop-note.invariant.quiet;
    }

pub returns-in_err-give_all-clause-err : goal.returns-in_err-give_all-clause-err
returns-in_err-give_all-clause-err g c =
    let given = g.R.Sink.given in
    on_err_always c.from_residual.result (GaveFront (given c.args.replies.now) (given c.give_all.new.sink) (flat_map note_line c.args.notes.now))
    (lines_in_part note_line c.args.notes.now c.loop-note.note-index _ (given c.args.replies.now) (given c.loop-note.replies) (given c.give_all.new.sink)
    c.loop-note-test.true c.loop-note.invariant.given
    (subst (λ l. GaveFront (given c.loop-note.replies) (given c.give_all.new.sink) l) (c.text.ensures ∙ c.note_text.ensures) c.in_err-give_all.ensures.err))

pub returns-clause-ok : goal.returns-clause-ok
returns-clause-ok g c =
    subst (λ l. Grew (g.R.Sink.given c.args.replies.now) (g.R.Sink.given c.loop-note.replies) (flat_map note_line l))
    (take_all c.loop-note.note-index c.args.notes.now (omega arith)) c.loop-note.invariant.given
