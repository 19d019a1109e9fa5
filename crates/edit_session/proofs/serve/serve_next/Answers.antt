use Rattle.std.proofs.Common.{refl}
use Rattle.tree_session.specs.Sitting.{state_of}
use Rattle.edit_session.specs.Tests.{step_by}
use Rattle.edit_session.proofs.Reading.{goes_on}
use Rattle.edit_session.proofs.serve.serve_next.Goals as goal

pub returns-in-Ok-serve_piece-clause-ok : goal.returns-in-Ok-serve_piece-clause-ok
returns-in-Ok-serve_piece-clause-ok g c = λ tests.
    goes_on (step_by tests) 4097 (g.C.Source.left c.args.script.now) c.in-Ok.n (g.C.Source.left c.take.new.self) c.take.new.buf _
    (state_of c.args.session.now) (state_of c.serve_piece.new.session) c.args.begun.now c.serve_piece.new.begun (g.R.Sink.given c.args.replies.now) (g.R.Sink.given c.serve_piece.new.replies)
    refl c.in-Ok.ensures.bytes (c.in-Ok-serve_piece.ensures.ok tests)
