use Rattle.std.proofs.Common.{◌≡◌, ◌≢◌, ℕ, List, [], length, take, subst, sym, ap, ◌∙◌, eqb, true≢false}
use Rattle.line_machine.specs.Lines.{last_line}
use Rattle.line_machine.specs.Served.{Served, ServedSoFar, Answered, AnsweredInPart}
use Rattle.line_machine.proofs.Taking.{last_some, last_in_part}
use Rattle.tree_session.specs.Sitting.{state_of}
use Rattle.edit_session.specs.Tests.{Tests, step_by}
use Rattle.edit_session.proofs.Spoken.{front}
use Rattle.edit_session.proofs.Reading.{on_ok, on_err}
use Rattle.edit_session.proofs.piece.serve_last.Goals as goal

pub returns-clause-ok : goal.returns-clause-ok
returns-clause-ok g c =
    let given = g.R.Sink.given in
    let some : c.args.begun.now ≢ [] = λ no. true≢false (ap (λ l. eqb (length l) 0) (sym (c.bytes.ensures ∙ no)) ∙ sym c.is_empty.ensures ∙ c.if-is_empty.false) in
    on_ok c.answer.result ((tests : Tests) → Answered (step_by tests) (state_of c.args.session.now) c.bytes-2.result.now (state_of c.answer.new.session) (given c.args.replies.now) (given c.answer.new.replies))
    ((tests : Tests) (line : List ℕ) → c.args.begun.now ≡ take 4097 line → Served (step_by tests) (state_of c.args.session.now) (last_line line) (state_of c.answer.new.session) (given c.args.replies.now) (given c.answer.new.replies))
    (λ h tests line e.
    last_some (step_by tests) 4097 (front tests) (state_of c.args.session.now) (state_of c.answer.new.session) line c.args.begun.now (given c.args.replies.now) (given c.answer.new.replies) e some
    (subst (λ l. Answered (step_by tests) (state_of c.args.session.now) l (state_of c.answer.new.session) (given c.args.replies.now) (given c.answer.new.replies)) c.bytes-2.ensures (h tests))) c.answer.ensures.ok

pub returns-clause-err : goal.returns-clause-err
returns-clause-err g c =
    let given = g.R.Sink.given in
    let some : c.args.begun.now ≢ [] = λ no. true≢false (ap (λ l. eqb (length l) 0) (sym (c.bytes.ensures ∙ no)) ∙ sym c.is_empty.ensures ∙ c.if-is_empty.false) in
    on_err c.answer.result ((tests : Tests) → AnsweredInPart (step_by tests) (state_of c.args.session.now) c.bytes-2.result.now (given c.args.replies.now) (given c.answer.new.replies))
    ((tests : Tests) (line : List ℕ) → c.args.begun.now ≡ take 4097 line → ServedSoFar (step_by tests) (state_of c.args.session.now) (last_line line) (given c.args.replies.now) (given c.answer.new.replies))
    (λ h tests line e.
    last_in_part (step_by tests) 4097 (front tests) (state_of c.args.session.now) line c.args.begun.now (given c.args.replies.now) (given c.answer.new.replies) e some
    (subst (λ l. AnsweredInPart (step_by tests) (state_of c.args.session.now) l (given c.args.replies.now) (given c.answer.new.replies)) c.bytes-2.ensures (h tests))) c.answer.ensures.err
