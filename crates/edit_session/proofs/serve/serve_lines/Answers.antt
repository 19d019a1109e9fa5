use Rattle.std.proofs.Common.{◌≡◌, ℕ, ◌+◌, ◌≤◌, List, [], length, take, Some, ◌∙◌, arith, rules, length-take, refl}
use Rattle.line_machine.specs.Pieces.{InPiece, Taken}
use Rattle.line_machine.proofs.Taking.{took_more, at_some}
use Rattle.tree_session.specs.Sitting.{state_of}
use Rattle.edit_session.specs.Tests.{step_by}
use Rattle.edit_session.specs.declared.serve.Stop.TheVariants.{TakeFailed, TooLong}
use Rattle.edit_session.specs.Serving.{StoppedAt}
use Rattle.edit_session.proofs.Reading.{took_fault, took_all, none_taken, took_nothing, took_past, took_failed}
use Rattle.edit_session.proofs.serve.serve_lines.Goals as goal

pub loop-taken-init : goal.loop-taken-init
loop-taken-init g c = record {
  small = omega arith;
  told = λ tests. none_taken (step_by tests) 4097 (g.C.Source.left c.args.script.now) (state_of c.args.session.now) c.args.begun.now (g.R.Sink.given c.args.replies.now) c.requires;
  script_quiet = refl;
  replies_quiet = refl;
}

pub returns-in-Err-clause-stopped : goal.returns-in-Err-clause-stopped
returns-in-Err-clause-stopped g c =
    let left = g.C.Source.left in
    let given = g.R.Sink.given in
    λ tests.
    at_some (left c.args.script.now)
    (λ all. Taken (step_by tests) 4097 all (left c.loop-taken.script) c.loop-taken.taken (state_of c.args.session.now) (state_of c.loop-taken.session) c.loop-taken.begun (given c.args.replies.now) (given c.loop-taken.replies))
    (λ all. (x : List ℕ) × (left c.serve_next.new.script ≡ Some x) × StoppedAt (step_by tests) (state_of c.args.session.now) c.in-Err.stop all x (given c.args.replies.now) (given c.serve_next.new.replies))
    (λ all k. took_fault (step_by tests) 4097 all (left c.loop-taken.script) c.loop-taken.taken (length (take c.min-want.result c.loop-taken.piece)) c.in-Err.stop (state_of c.args.session.now) (state_of c.loop-taken.session) (state_of c.serve_next.new.session) c.loop-taken.begun
    (left c.serve_next.new.script) (given c.args.replies.now) (given c.loop-taken.replies) (given c.serve_next.new.replies)
    (omega (arith, length-take c.min-want.result c.loop-taken.piece, c.min-want.ensures, c.loop-taken.invariant.small)) (c.in-Err.ensures.err tests) k)
    (c.loop-taken.invariant.told tests)

pub returns-then-n-eq0-clause-end : goal.returns-then-n-eq0-clause-end
returns-then-n-eq0-clause-end g c =
    let left = g.C.Source.left in
    let given = g.R.Sink.given in
    λ tests.
    at_some (left c.args.script.now)
    (λ all. Taken (step_by tests) 4097 all (left c.loop-taken.script) c.loop-taken.taken (state_of c.args.session.now) (state_of c.loop-taken.session) c.loop-taken.begun (given c.args.replies.now) (given c.loop-taken.replies))
    (λ all. (left c.serve_next.new.script ≡ Some []) × (length all ≤ 67108864) × InPiece (step_by tests) 4097 [] all (state_of c.args.session.now) (state_of c.serve_next.new.session) c.serve_next.new.begun (given c.args.replies.now) (given c.serve_next.new.replies))
    (λ all k. took_all (step_by tests) 4097 all (left c.loop-taken.script) c.loop-taken.taken c.in-Ok.n (state_of c.args.session.now) (state_of c.loop-taken.session) (state_of c.serve_next.new.session) c.loop-taken.begun c.serve_next.new.begun
    (left c.serve_next.new.script) (given c.args.replies.now) (given c.loop-taken.replies) (given c.serve_next.new.replies) c.if-n-eq0.true c.loop-taken.invariant.small (c.in-Ok.ensures.ok tests) k)
    (c.loop-taken.invariant.told tests)

pub loop-taken-preserved : goal.loop-taken-preserved
loop-taken-preserved g c =
    let left = g.C.Source.left in
    let given = g.R.Sink.given in
    record {
      small = omega (arith, c.in-Ok.ensures.within, length-take c.min-want.result c.loop-taken.piece, c.min-want.ensures);
      told = λ tests. at_some (left c.args.script.now)
          (λ all. Taken (step_by tests) 4097 all (left c.loop-taken.script) c.loop-taken.taken (state_of c.args.session.now) (state_of c.loop-taken.session) c.loop-taken.begun (given c.args.replies.now) (given c.loop-taken.replies))
          (λ all. Taken (step_by tests) 4097 all (left c.serve_next.new.script) (c.loop-taken.taken + c.in-Ok.n) (state_of c.args.session.now) (state_of c.serve_next.new.session) c.serve_next.new.begun (given c.args.replies.now) (given c.serve_next.new.replies))
          (λ all k. took_more (step_by tests) 4097 all (left c.loop-taken.script) c.loop-taken.taken c.in-Ok.n (state_of c.args.session.now) (state_of c.loop-taken.session) (state_of c.serve_next.new.session) c.loop-taken.begun c.serve_next.new.begun
          (left c.serve_next.new.script) (given c.args.replies.now) (given c.loop-taken.replies) (given c.serve_next.new.replies) (c.in-Ok.ensures.ok tests) k)
          (c.loop-taken.invariant.told tests);
      script_quiet = c.in-Ok.ensures.quiet.0 ∙ c.loop-taken.invariant.script_quiet;
      replies_quiet = c.in-Ok.ensures.quiet.1 ∙ c.loop-taken.invariant.replies_quiet;
    }

pub returns-in-Ok-eq0-clause-end : goal.returns-in-Ok-eq0-clause-end
returns-in-Ok-eq0-clause-end g c =
    let left = g.C.Source.left in
    let given = g.R.Sink.given in
    let none : c.in-Ok-eq0.field-0 ≡ 0 = first_of (search rules, omega (arith, c.in-Ok-eq0.field-0-test)) in
    λ tests.
    at_some (left c.args.script.now)
    (λ all. Taken (step_by tests) 4097 all (left c.loop-taken.script) c.loop-taken.taken (state_of c.args.session.now) (state_of c.loop-taken.session) c.loop-taken.begun (given c.args.replies.now) (given c.loop-taken.replies))
    (λ all. (left c.take.new.self ≡ Some []) × (length all ≤ 67108864) × InPiece (step_by tests) 4097 [] all (state_of c.args.session.now) (state_of c.loop-taken.session) c.loop-taken.begun (given c.args.replies.now) (given c.loop-taken.replies))
    (λ all k. took_nothing (step_by tests) 4097 all (left c.loop-taken.script) c.loop-taken.taken c.in-Ok-eq0.field-0 (state_of c.args.session.now) (state_of c.loop-taken.session) c.loop-taken.begun
    (left c.take.new.self) c.take.new.buf (given c.args.replies.now) (given c.loop-taken.replies) none c.loop-taken.invariant.small c.in-Ok-eq0.ensures.bytes k)
    (c.loop-taken.invariant.told tests)

pub returns-in-Ok-take-clause-stopped : goal.returns-in-Ok-take-clause-stopped
returns-in-Ok-take-clause-stopped g c =
    let left = g.C.Source.left in
    let given = g.R.Sink.given in
    let full : c.loop-taken.taken ≡ 67108864 = omega (arith, c.loop-taken-test.false, c.loop-taken.invariant.small) in
    let one : c.in-Ok-take.field-0 ≡ 1 = omega (arith, c.in-Ok-take.field-0-test, c.in-Ok-take.ensures.within, length-take 1 c.loop-taken.piece) in
    λ tests.
    at_some (left c.args.script.now)
    (λ all. Taken (step_by tests) 4097 all (left c.loop-taken.script) c.loop-taken.taken (state_of c.args.session.now) (state_of c.loop-taken.session) c.loop-taken.begun (given c.args.replies.now) (given c.loop-taken.replies))
    (λ all. (x : List ℕ) × (left c.take.new.self ≡ Some x) × StoppedAt (step_by tests) (state_of c.args.session.now) TooLong all x (given c.args.replies.now) (given c.loop-taken.replies))
    (λ all k. took_past (step_by tests) 4097 all (left c.loop-taken.script) c.loop-taken.taken c.in-Ok-take.field-0 (state_of c.args.session.now) (state_of c.loop-taken.session) c.loop-taken.begun
    (left c.take.new.self) c.take.new.buf (given c.args.replies.now) (given c.loop-taken.replies) full one c.in-Ok-take.ensures.bytes k)
    (c.loop-taken.invariant.told tests)

pub returns-in-Err-take-clause-stopped : goal.returns-in-Err-take-clause-stopped
returns-in-Err-take-clause-stopped g c =
    let left = g.C.Source.left in
    let given = g.R.Sink.given in
    λ tests.
    at_some (left c.args.script.now)
    (λ all. Taken (step_by tests) 4097 all (left c.loop-taken.script) c.loop-taken.taken (state_of c.args.session.now) (state_of c.loop-taken.session) c.loop-taken.begun (given c.args.replies.now) (given c.loop-taken.replies))
    (λ all. (x : List ℕ) × (left c.take.new.self ≡ Some x) × StoppedAt (step_by tests) (state_of c.args.session.now) TakeFailed all x (given c.args.replies.now) (given c.loop-taken.replies))
    (λ all k. took_failed (step_by tests) 4097 all (left c.loop-taken.script) c.loop-taken.taken c.in-Err-take.field-0 (state_of c.args.session.now) (state_of c.loop-taken.session) c.loop-taken.begun
    (left c.take.new.self) c.take.new.buf (given c.args.replies.now) (given c.loop-taken.replies) c.loop-taken.invariant.small c.in-Err-take.ensures.bytes k)
    (c.loop-taken.invariant.told tests)
