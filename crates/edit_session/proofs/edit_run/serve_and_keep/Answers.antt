use Rattle.outside_io.specs.Moved.{Rose}
use Rattle.map_model.specs.Tree.{whole}
use Rattle.tree_session.specs.Sitting.{state_of}
use Rattle.edit_session.specs.Tests.{state_text}
use Rattle.edit_session.proofs.EditExits.{script_kept, unkept_of, stopped_says}
use Rattle.edit_session.proofs.Causes.{kept_cause, give_failed, stopped_serve_cause}
use Rattle.edit_session.proofs.edit_run.serve_and_keep.Goals as goal

pub returns-in-Ok-clause-says : goal.returns-in-Ok-clause-says
returns-in-Ok-clause-says g c = λ tests.
    script_kept c.keep_map.result tests (state_of c.open-session.result) (whole c.args.map) (state_of c.serve_script.new.session) c.args.out.now
    (g.C.Source.left c.args.script.now) (g.C.Source.left c.serve_script.new.script) (g.R.Sink.given c.args.replies.now) (g.R.Sink.given c.serve_script.new.replies)
    (g.V.Vault.kept c.args.vault.now) (g.V.Vault.kept c.keep_map.new.vault) (Rose (g.R.Sink.faults c.args.replies.now) (g.R.Sink.faults c.serve_script.new.replies))
    c.open-session.ensures (c.in-Ok.ensures.end tests) c.keep_map.ensures.kept

pub returns-in-Ok-clause-cause : goal.returns-in-Ok-clause-cause
returns-in-Ok-clause-cause g c =
    kept_cause c.keep_map.result
    (g.V.Vault.fetch_faults c.args.vault.now) (g.V.Vault.keep_faults c.args.vault.now) (g.C.Source.faults c.args.script.now) (g.R.Sink.faults c.args.replies.now)
    (g.V.Vault.fetch_faults c.keep_map.new.vault) (g.V.Vault.keep_faults c.keep_map.new.vault) (g.C.Source.faults c.serve_script.new.script) (g.R.Sink.faults c.serve_script.new.replies)
    c.keep_map.ensures.fetches c.in-Ok.ensures.quiet.0 c.in-Ok.ensures.quiet.1 c.keep_map.ensures.cause

pub returns-in-Ok-clause-unkept : goal.returns-in-Ok-clause-unkept
returns-in-Ok-clause-unkept g c =
    unkept_of c.keep_map.result c.args.out.now (state_text (state_of c.serve_script.new.session)) (g.V.Vault.kept c.args.vault.now) (g.V.Vault.kept c.keep_map.new.vault) c.keep_map.ensures.kept

pub returns-clause-says : goal.returns-clause-says
returns-clause-says g c = λ tests.
    stopped_says c.in-Err.stop c.status.result tests (state_of c.open-session.result) (whole c.args.map) c.args.out.now
    (g.C.Source.left c.args.script.now) (g.C.Source.left c.serve_script.new.script) (g.R.Sink.given c.args.replies.now) (g.R.Sink.given c.serve_script.new.replies)
    (g.V.Vault.kept c.args.vault.now) (Rose (g.R.Sink.faults c.args.replies.now) (g.R.Sink.faults c.serve_script.new.replies))
    c.status.ensures c.open-session.ensures
    (give_failed c.in-Err.stop (g.C.Source.faults c.args.script.now) (g.C.Source.faults c.serve_script.new.script) (g.R.Sink.faults c.args.replies.now) (g.R.Sink.faults c.serve_script.new.replies) c.in-Err.ensures.cause)
    (c.in-Err.ensures.stopped tests)

pub returns-clause-cause : goal.returns-clause-cause
returns-clause-cause g c =
    stopped_serve_cause c.in-Err.stop c.status.result
    (g.V.Vault.fetch_faults c.args.vault.now) (g.V.Vault.keep_faults c.args.vault.now) (g.C.Source.faults c.args.script.now) (g.R.Sink.faults c.args.replies.now)
    (g.C.Source.faults c.serve_script.new.script) (g.R.Sink.faults c.serve_script.new.replies)
    c.status.ensures c.in-Err.ensures.cause
