use Rattle.tree_session.specs.Sitting.{state_of}
use Rattle.edit_session.specs.Tests.{step_by}
use Rattle.edit_session.proofs.Reading.{script_served, script_part}
use Rattle.edit_session.proofs.serve.serve_script.Goals as goal

pub returns-in-Ok-serve_last-clause-end : goal.returns-in-Ok-serve_last-clause-end
returns-in-Ok-serve_last-clause-end g c = λ tests.
    script_served (step_by tests) 4097 (g.C.Source.left c.args.script.now) (g.C.Source.left c.serve_lines.new.script)
    (g.R.Sink.given c.args.replies.now) (g.R.Sink.given c.serve_lines.new.replies) (g.R.Sink.given c.serve_last.new.replies)
    (state_of c.args.session.now) (state_of c.serve_lines.new.session) (state_of c.serve_last.new.session) c.serve_lines.new.begun (c.in-Ok.ensures.end tests) (c.in-Ok-serve_last.ensures.ok tests)

pub returns-in-Err-serve_last-clause-stopped : goal.returns-in-Err-serve_last-clause-stopped
returns-in-Err-serve_last-clause-stopped g c = λ tests.
    script_part (step_by tests) 4097 (g.C.Source.left c.args.script.now) (g.C.Source.left c.serve_lines.new.script)
    (g.R.Sink.given c.args.replies.now) (g.R.Sink.given c.serve_lines.new.replies) (g.R.Sink.given c.serve_last.new.replies)
    (state_of c.args.session.now) (state_of c.serve_lines.new.session) c.serve_lines.new.begun (c.in-Ok.ensures.end tests) (c.in-Err-serve_last.ensures.err tests)
