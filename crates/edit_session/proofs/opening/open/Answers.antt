use Rattle.std.proofs.Common.{◌≤◌, length, arith, Some, sym, subst}
use Rattle.edit_session.specs.Devices.{MayFind}
use Rattle.edit_session.proofs.Opens.{read_opened, read_unopened, read_cause, unfetched_says, unfetched_cause}
use Rattle.edit_session.proofs.opening.open.Goals as goal

pub returns-in-Ok-clause-ok : goal.returns-in-Ok-clause-ok
returns-in-Ok-clause-ok g c =
    let fits : length c.fetch.new.out.items ≤ 67108864 = omega (arith, c.in-Ok.ensures.within, c.fetch.new.out.ok.0) in
    let texts = g.V.Vault.texts c.args.vault.now in
    read_opened c.read.result texts c.args.name.now c.as_slice.result.now (g.R.Sink.given c.args.replies.now) (g.R.Sink.given c.read.new.replies)
    (subst (λ l. length l ≤ 67108864) (sym c.as_slice.ensures.value) fits)
    (subst (λ l. MayFind texts c.args.name.now (Some l)) (sym c.as_slice.ensures.value) c.in-Ok.ensures.found) c.read.ensures.ok

pub returns-in-Ok-clause-err : goal.returns-in-Ok-clause-err
returns-in-Ok-clause-err g c =
    let fits : length c.fetch.new.out.items ≤ 67108864 = omega (arith, c.in-Ok.ensures.within, c.fetch.new.out.ok.0) in
    let texts = g.V.Vault.texts c.args.vault.now in
    read_unopened c.read.result texts c.args.name.now c.as_slice.result.now (g.R.Sink.given c.args.replies.now) (g.R.Sink.given c.read.new.replies)
    (subst (λ l. length l ≤ 67108864) (sym c.as_slice.ensures.value) fits)
    (subst (λ l. MayFind texts c.args.name.now (Some l)) (sym c.as_slice.ensures.value) c.in-Ok.ensures.found) c.read.ensures.err

pub returns-in-Ok-clause-cause : goal.returns-in-Ok-clause-cause
returns-in-Ok-clause-cause g c =
    read_cause c.read.result (g.V.Vault.texts c.args.vault.now) c.args.name.now
    (g.V.Vault.fetch_faults c.args.vault.now) (g.V.Vault.fetch_faults c.fetch.new.self) (g.R.Sink.faults c.args.replies.now) (g.R.Sink.faults c.read.new.replies)
    c.in-Ok.ensures.quiet c.read.ensures.cause

pub returns-clause-err : goal.returns-clause-err
returns-clause-err g c =
    unfetched_says c.in-Err.end c.unfetched.result (g.V.Vault.texts c.args.vault.now) c.args.name.now (g.R.Sink.given c.args.replies.now)
    c.unfetched.ensures c.in-Err.ensures.too_long

pub returns-clause-cause : goal.returns-clause-cause
returns-clause-cause g c =
    unfetched_cause c.in-Err.end c.unfetched.result (g.V.Vault.texts c.args.vault.now) c.args.name.now
    (g.V.Vault.fetch_faults c.args.vault.now) (g.V.Vault.fetch_faults c.fetch.new.self) (g.R.Sink.faults c.args.replies.now)
    c.unfetched.ensures c.in-Err.ensures.cause c.in-Err.ensures.quiet
