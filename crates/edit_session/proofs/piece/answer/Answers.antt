use Rattle.std.proofs.Common.{ℕ, take}
use Rattle.outside_io.specs.Moved.{Grew}
use Rattle.line_machine.specs.Served.{Answered, AnsweredInPart}
use Rattle.map_model.specs.Machine.{answer_text}
use Rattle.tree_session.specs.Sitting.{state_of, answer_of}
use Rattle.edit_session.specs.Tests.{Tests, step_by}
use Rattle.edit_session.proofs.Spoken.{answered}
use Rattle.edit_session.proofs.Reading.{on_ok, on_err}
use Rattle.edit_session.proofs.piece.answer.Goals as goal

pub returns-clause-ok : goal.returns-clause-ok
returns-clause-ok g c =
    let given = g.R.Sink.given in
    let s = state_of c.args.session.now in
    let t = state_of c.step-given.new.self in
    let text = answer_text (answer_of c.step-given.result) in
    on_ok c.give_answer.result (Grew (given c.args.replies.now) (given c.give_answer.new.replies) text)
    ((tests : Tests) → Answered (step_by tests) s c.args.line.now t (given c.args.replies.now) (given c.give_answer.new.replies))
    (λ h tests. record { bytes = text; answers = answered tests s c.args.line.now (answer_of c.step-given.result) t c.step-given.ensures; grew = h })
    c.give_answer.ensures.ok

pub returns-clause-err : goal.returns-clause-err
returns-clause-err g c =
    let given = g.R.Sink.given in
    let s = state_of c.args.session.now in
    let t = state_of c.step-given.new.self in
    let text = answer_text (answer_of c.step-given.result) in
    on_err c.give_answer.result ((n : ℕ) × Grew (given c.args.replies.now) (given c.give_answer.new.replies) (take n text))
    ((tests : Tests) → AnsweredInPart (step_by tests) s c.args.line.now (given c.args.replies.now) (given c.give_answer.new.replies))
    (λ h tests. record { bytes = text; sent = h.0; state = t; answers = answered tests s c.args.line.now (answer_of c.step-given.result) t c.step-given.ensures; grew = h.1 })
    c.give_answer.ensures.err
