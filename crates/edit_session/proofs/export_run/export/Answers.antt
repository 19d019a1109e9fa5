use Rattle.outside_io.specs.Moved.{Rose}
use Rattle.map_model.specs.Tree.{whole}
use Rattle.edit_session.proofs.ExportExits.{by_tests}
use Rattle.edit_session.proofs.export_run.export.Goals as goal

pub returns-in-Ok-clause-says : goal.returns-in-Ok-clause-says
returns-in-Ok-clause-says g c = λ tests.
    by_tests tests (whole c.args.map.now) c.in-Ok.obj c.keep_text.result c.args.out.now (g.R.Sink.given c.args.replies.now) (g.R.Sink.given c.keep_text.new.replies)
    (g.V.Vault.kept c.args.vault.now) (g.V.Vault.kept c.keep_text.new.vault) (Rose (g.R.Sink.faults c.args.replies.now) (g.R.Sink.faults c.keep_text.new.replies))
    c.in-Ok.ensures c.keep_text.ensures.kept
