use Rattle.std.proofs.Common.{◌∷◌, [], subst}
use Rattle.outside_io.specs.Moved.{Grew}
use Rattle.edit_session.proofs.ExportExits.{text_kept, kept_only, kept_cause}
use Rattle.edit_session.proofs.export_run.keep_text.Goals as goal

pub returns-in-Ok-clause-kept : goal.returns-in-Ok-clause-kept
returns-in-Ok-clause-kept g c =
    let given = g.R.Sink.given in let kept = g.V.Vault.kept in let gives = g.R.Sink.faults in
    text_kept c.sum_up.result c.args.out.now c.args.obj.now c.exported.result (given c.args.replies.now) (given c.sum_up.new.replies)
    (kept c.args.vault.now) (kept c.keep.new.self) (gives c.args.replies.now) (gives c.sum_up.new.replies) c.exported.ensures
    (subst (λ text. Grew (kept c.args.vault.now) (kept c.keep.new.self) ((c.args.out.now, text) ∷ [])) c.bytes.ensures c.in-Ok.ensures.kept)
    c.sum_up.ensures.given c.sum_up.ensures.cause

pub returns-in-Ok-clause-unkept : goal.returns-in-Ok-clause-unkept
returns-in-Ok-clause-unkept g c =
    kept_only c.sum_up.result (g.V.Vault.kept c.args.vault.now) (g.V.Vault.kept c.keep.new.self) (g.R.Sink.faults c.args.replies.now) (g.R.Sink.faults c.sum_up.new.replies) c.sum_up.ensures.cause

pub returns-in-Ok-clause-cause : goal.returns-in-Ok-clause-cause
returns-in-Ok-clause-cause g c =
    kept_cause c.sum_up.result (g.V.Vault.keep_faults c.args.vault.now) (g.V.Vault.keep_faults c.keep.new.self) (g.R.Sink.faults c.args.replies.now) (g.R.Sink.faults c.sum_up.new.replies)
    c.in-Ok.ensures.quiet c.sum_up.ensures.cause
