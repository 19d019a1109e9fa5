use Rattle.std.proofs.Common.{◌≡◌, map, string_bytes, codes}
use Rattle.edit_session.specs.declared.status.Status.TheVariants.{Usage}
use Rattle.edit_session.specs.Devices.{told_of, counts_of}
use Rattle.edit_session.specs.EditRun.{EditRun}
use Rattle.edit_session.specs.CheckRun.{CheckRun}
use Rattle.edit_session.proofs.SameWords.{form_only, check_only, two_forms, edit_exports_not, edit_form, check_form, export_form}
use Rattle.edit_session.specs.ExportRun.{ExportRun}
use Rattle.edit_session.proofs.ExportExits.{export_not_usage}
use Rattle.edit_session.proofs.Causes.{edit_not_usage, check_not_usage}
use Rattle.edit_session.proofs.whole_run.run.Goals as goal

pub returns-in-Some-clause-usage : goal.returns-in-Some-clause-usage
returns-in-Some-clause-usage g c =
    edit_form (map string_bytes c.args.words.now) c.in-Some.edit.map.now c.in-Some.edit.out.now (c.run_edit.result ≡ Usage) c.in-Some.ensures.edit
    (λ e. edit_not_usage c.run_edit.result (g.V.Vault.texts c.args.vault.now) c.in-Some.edit.map.now _ _ c.run_edit.ensures.cause e)

pub returns-in-Some-clause-untouched : goal.returns-in-Some-clause-untouched
returns-in-Some-clause-untouched g c = λ e.
    absurd (edit_not_usage c.run_edit.result (g.V.Vault.texts c.args.vault.now) c.in-Some.edit.map.now _ _ c.run_edit.ensures.cause e)

pub returns-in-Some-clause-edit : goal.returns-in-Some-clause-edit
returns-in-Some-clause-edit g c = λ name other is.
    form_only
    (λ n o. EditRun n o c.run_edit.result (g.V.Vault.texts c.args.vault.now)
    (told_of (g.C.Source.left c.args.script.now) (g.R.Sink.given c.args.replies.now) (g.V.Vault.kept c.args.vault.now))
    (told_of (g.C.Source.left c.run_edit.new.script) (g.R.Sink.given c.run_edit.new.replies) (g.V.Vault.kept c.run_edit.new.vault))
    (counts_of (g.V.Vault.fetch_faults c.args.vault.now) (g.V.Vault.keep_faults c.args.vault.now) (g.C.Source.faults c.args.script.now) (g.R.Sink.faults c.args.replies.now))
    (counts_of (g.V.Vault.fetch_faults c.run_edit.new.vault) (g.V.Vault.keep_faults c.run_edit.new.vault) (g.C.Source.faults c.run_edit.new.script) (g.R.Sink.faults c.run_edit.new.replies)))
    (codes "edit") (map string_bytes c.args.words.now) c.in-Some.edit.map.now c.in-Some.edit.out.now name other c.in-Some.ensures.edit c.run_edit.ensures is

pub returns-in-Some-clause-check : goal.returns-in-Some-clause-check
returns-in-Some-clause-check g c = λ name is.
    absurd (two_forms (codes "edit") (map string_bytes c.args.words.now) c.in-Some.edit.map.now c.in-Some.edit.out.now name c.in-Some.ensures.edit is)

pub returns-in-Some-clause-export : goal.returns-in-Some-clause-export
returns-in-Some-clause-export g c = λ name out is.
    absurd (edit_exports_not (map string_bytes c.args.words.now) c.in-Some.edit.map.now c.in-Some.edit.out.now name out c.in-Some.ensures.edit is)

pub returns-in-Some-read_check-clause-usage : goal.returns-in-Some-read_check-clause-usage
returns-in-Some-read_check-clause-usage g c =
    let run = c.run_check.ensures (g.C.Source.left c.args.script.now) (g.C.Source.faults c.args.script.now) in
    check_form (map string_bytes c.args.words.now) c.in-Some-read_check.map.now (c.run_check.result ≡ Usage) c.in-Some-read_check.ensures.check
    (λ e. check_not_usage c.run_check.result (g.V.Vault.texts c.args.vault.now) c.in-Some-read_check.map.now _ _ run.cause e)

pub returns-in-Some-read_check-clause-untouched : goal.returns-in-Some-read_check-clause-untouched
returns-in-Some-read_check-clause-untouched g c = λ e.
    let run = c.run_check.ensures (g.C.Source.left c.args.script.now) (g.C.Source.faults c.args.script.now) in
    absurd (check_not_usage c.run_check.result (g.V.Vault.texts c.args.vault.now) c.in-Some-read_check.map.now _ _ run.cause e)

pub returns-in-Some-read_check-clause-edit : goal.returns-in-Some-read_check-clause-edit
returns-in-Some-read_check-clause-edit g c = λ name out is.
    absurd (two_forms (codes "edit") (map string_bytes c.args.words.now) name out c.in-Some-read_check.map.now is c.in-Some-read_check.ensures.check)

pub returns-in-Some-read_check-clause-check : goal.returns-in-Some-read_check-clause-check
returns-in-Some-read_check-clause-check g c = λ name is.
    check_only
    (λ n. CheckRun n c.run_check.result (g.V.Vault.texts c.args.vault.now)
    (told_of (g.C.Source.left c.args.script.now) (g.R.Sink.given c.args.replies.now) (g.V.Vault.kept c.args.vault.now))
    (told_of (g.C.Source.left c.args.script.now) (g.R.Sink.given c.run_check.new.replies) (g.V.Vault.kept c.run_check.new.vault))
    (counts_of (g.V.Vault.fetch_faults c.args.vault.now) (g.V.Vault.keep_faults c.args.vault.now) (g.C.Source.faults c.args.script.now) (g.R.Sink.faults c.args.replies.now))
    (counts_of (g.V.Vault.fetch_faults c.run_check.new.vault) (g.V.Vault.keep_faults c.run_check.new.vault) (g.C.Source.faults c.args.script.now) (g.R.Sink.faults c.run_check.new.replies)))
    (map string_bytes c.args.words.now) c.in-Some-read_check.map.now name c.in-Some-read_check.ensures.check
    (c.run_check.ensures (g.C.Source.left c.args.script.now) (g.C.Source.faults c.args.script.now)) is

pub returns-in-Some-read_check-clause-export : goal.returns-in-Some-read_check-clause-export
returns-in-Some-read_check-clause-export g c = λ name out is.
    absurd (two_forms (codes "export") (map string_bytes c.args.words.now) name out c.in-Some-read_check.map.now is c.in-Some-read_check.ensures.check)

pub returns-in-Some-read_export-clause-usage : goal.returns-in-Some-read_export-clause-usage
returns-in-Some-read_export-clause-usage g c =
    let run = c.run_export.ensures (g.C.Source.left c.args.script.now) (g.C.Source.faults c.args.script.now) in
    export_form (map string_bytes c.args.words.now) c.in-Some-read_export.export.map.now c.in-Some-read_export.export.out.now (c.run_export.result ≡ Usage) c.in-Some-read_export.ensures.export
    (λ e. export_not_usage c.run_export.result (g.V.Vault.texts c.args.vault.now) c.in-Some-read_export.export.map.now _ _ run.cause e)

pub returns-in-Some-read_export-clause-untouched : goal.returns-in-Some-read_export-clause-untouched
returns-in-Some-read_export-clause-untouched g c = λ e.
    let run = c.run_export.ensures (g.C.Source.left c.args.script.now) (g.C.Source.faults c.args.script.now) in
    absurd (export_not_usage c.run_export.result (g.V.Vault.texts c.args.vault.now) c.in-Some-read_export.export.map.now _ _ run.cause e)

pub returns-in-Some-read_export-clause-edit : goal.returns-in-Some-read_export-clause-edit
returns-in-Some-read_export-clause-edit g c = λ name out is.
    absurd (edit_exports_not (map string_bytes c.args.words.now) name out c.in-Some-read_export.export.map.now c.in-Some-read_export.export.out.now is c.in-Some-read_export.ensures.export)

pub returns-in-Some-read_export-clause-check : goal.returns-in-Some-read_export-clause-check
returns-in-Some-read_export-clause-check g c = λ name is.
    absurd (two_forms (codes "export") (map string_bytes c.args.words.now) c.in-Some-read_export.export.map.now c.in-Some-read_export.export.out.now name c.in-Some-read_export.ensures.export is)

pub returns-in-Some-read_export-clause-export : goal.returns-in-Some-read_export-clause-export
returns-in-Some-read_export-clause-export g c = λ name other is.
    form_only
    (λ n o. ExportRun n o c.run_export.result (g.V.Vault.texts c.args.vault.now)
    (told_of (g.C.Source.left c.args.script.now) (g.R.Sink.given c.args.replies.now) (g.V.Vault.kept c.args.vault.now))
    (told_of (g.C.Source.left c.args.script.now) (g.R.Sink.given c.run_export.new.replies) (g.V.Vault.kept c.run_export.new.vault))
    (counts_of (g.V.Vault.fetch_faults c.args.vault.now) (g.V.Vault.keep_faults c.args.vault.now) (g.C.Source.faults c.args.script.now) (g.R.Sink.faults c.args.replies.now))
    (counts_of (g.V.Vault.fetch_faults c.run_export.new.vault) (g.V.Vault.keep_faults c.run_export.new.vault) (g.C.Source.faults c.args.script.now) (g.R.Sink.faults c.run_export.new.replies)))
    (codes "export") (map string_bytes c.args.words.now) c.in-Some-read_export.export.map.now c.in-Some-read_export.export.out.now name other c.in-Some-read_export.ensures.export
    (c.run_export.ensures (g.C.Source.left c.args.script.now) (g.C.Source.faults c.args.script.now)) is
