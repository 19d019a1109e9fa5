use Rattle.std.proofs.Common.{◌≡◌, ℕ, List, take, ◌∙◌, eq-eqb, ne_eqb, subst, refl, arith, take_all}
use Rattle.line_machine.specs.Lines.{whole_from}
use Rattle.line_machine.specs.Served.{Answered, AnsweredInPart, ServedSoFar}
use Rattle.line_machine.specs.Pieces.{InPiece}
use Rattle.line_machine.proofs.Taking.{none_in_piece, inside, at_end, fault_at_end}
use Rattle.tree_session.specs.Sitting.{state_of}
use Rattle.edit_session.specs.Tests.{Tests, step_by}
use Rattle.edit_session.proofs.Spoken.{front}
use Rattle.edit_session.proofs.Reading.{on_err_always}
use Rattle.edit_session.proofs.piece.serve_piece.Goals as goal

pub loop-byte-init : goal.loop-byte-init
loop-byte-init g c = record {
  answered = λ tests before e. none_in_piece (step_by tests) 4097 (state_of c.args.session.now) c.args.begun.now before (g.R.Sink.given c.args.replies.now) e;
  quiet = refl;
}

pub loop-byte-preserved-then-byte-ne10 : goal.loop-byte-preserved-then-byte-ne10
loop-byte-preserved-then-byte-ne10 g c = record {
  answered = λ tests before e.
      inside (step_by tests) 4097 before c.args.piece.now c.loop-byte.byte-index (state_of c.args.session.now) (state_of c.loop-byte.session) c.loop-byte.begun c.push.new.self
      (g.R.Sink.given c.args.replies.now) (g.R.Sink.given c.loop-byte.replies)
      c.loop-byte-test.true (ne_eqb _ _ c.if-byte-ne10.true) (c.loop-byte.invariant.answered tests before e) c.push.ensures;
  quiet = c.loop-byte.invariant.quiet;
}

pub returns-in_err-answer-clause-err : goal.returns-in_err-answer-clause-err
returns-in_err-answer-clause-err g c =
    let given = g.R.Sink.given in
    let part : (tests : Tests) → AnsweredInPart (step_by tests) (state_of c.loop-byte.session) c.loop-byte.begun (given c.loop-byte.replies) (given c.answer.new.replies) =
    subst (λ l. (tests : Tests) → AnsweredInPart (step_by tests) (state_of c.loop-byte.session) l (given c.loop-byte.replies) (given c.answer.new.replies)) c.bytes.ensures c.in_err-answer.ensures.err in
    on_err_always c.from_residual.result
    ((tests : Tests) (before : List ℕ) → c.args.begun.now ≡ take 4097 before → ServedSoFar (step_by tests) (state_of c.args.session.now) (whole_from before c.args.piece.now) (given c.args.replies.now) (given c.answer.new.replies))
    (λ tests before e.
    fault_at_end (step_by tests) 4097 (front tests) before c.args.piece.now c.loop-byte.byte-index (state_of c.args.session.now) (state_of c.loop-byte.session) c.loop-byte.begun
    (given c.args.replies.now) (given c.loop-byte.replies) (given c.answer.new.replies)
    c.loop-byte-test.true (eq-eqb _ _ c.if-byte-ne10.false) (c.loop-byte.invariant.answered tests before e) (part tests))

pub loop-byte-preserved : goal.loop-byte-preserved
loop-byte-preserved g c =
    let given = g.R.Sink.given in
    let whole : (tests : Tests) → Answered (step_by tests) (state_of c.loop-byte.session) c.loop-byte.begun (state_of c.answer.new.session) (given c.loop-byte.replies) (given c.answer.new.replies) =
    subst (λ l. (tests : Tests) → Answered (step_by tests) (state_of c.loop-byte.session) l (state_of c.answer.new.session) (given c.loop-byte.replies) (given c.answer.new.replies)) c.bytes.ensures c.in_ok-answer.ensures.ok in
    record {
      answered = λ tests before e.
          at_end (step_by tests) 4097 (front tests) before c.args.piece.now c.loop-byte.byte-index (state_of c.args.session.now) (state_of c.loop-byte.session) (state_of c.answer.new.session) c.loop-byte.begun c.clear.new.self
          (given c.args.replies.now) (given c.loop-byte.replies) (given c.answer.new.replies)
          c.loop-byte-test.true (eq-eqb _ _ c.if-byte-ne10.false) (c.loop-byte.invariant.answered tests before e) (whole tests) c.clear.ensures;
      quiet = c.in_ok-answer.ensures.quiet ∙ c.loop-byte.invariant.quiet;
    }

pub returns-clause-ok : goal.returns-clause-ok
returns-clause-ok g c = λ tests before e.
    subst (λ l. InPiece (step_by tests) 4097 before l (state_of c.args.session.now) (state_of c.loop-byte.session) c.loop-byte.begun (g.R.Sink.given c.args.replies.now) (g.R.Sink.given c.loop-byte.replies))
    (take_all c.loop-byte.byte-index c.args.piece.now (omega arith)) (c.loop-byte.invariant.answered tests before e)
