use Rattle.std.proofs.Common.{refl, sym, subst}
use Rattle.outside_io.specs.Moved.{Rose}
use Rattle.map_model.specs.Tree.{whole}
use Rattle.edit_session.specs.Devices.{Unfetched, counts_of}
use Rattle.edit_session.specs.Summing.{Sums}
use Rattle.edit_session.proofs.CheckExits.{check_opened, check_unopened}
use Rattle.edit_session.proofs.Causes.{summed_cause, summed_ungiven, unopened_check_cause, open_unfetched, open_ungiven, some_fell_not}
use Rattle.edit_session.proofs.check_run.run_check.Goals as goal

pub returns-in-Ok : goal.returns-in-Ok
returns-in-Ok g c = λ left t0.
    let texts = g.V.Vault.texts c.args.vault.now in
    let given = g.R.Sink.given in let kept = g.V.Vault.kept in
    let fetches = g.V.Vault.fetch_faults in let keeps = g.V.Vault.keep_faults in let gives = g.R.Sink.faults in
    let f0 = fetches c.args.vault.now in let k0 = keeps c.args.vault.now in let g0 = gives c.args.replies.now in
    let f1 = fetches c.open.new.vault in let k1 = keeps c.open.new.vault in let g1 = gives c.open.new.replies in let g2 = gives c.sum_up.new.replies in
    let quiet = c.in-Ok.ensures.quiet in
    record {
      says = check_opened c.opens_one_way_law.ensures texts c.args.map.now (whole c.in-Ok.opened) c.sum_up.result left
          (given c.args.replies.now) (given c.open.new.replies) (given c.sum_up.new.replies) (kept c.args.vault.now) (kept c.open.new.vault)
          (Unfetched texts c.args.map.now (counts_of f0 k0 t0 g0) (counts_of f1 k1 t0 g2)) (Rose g0 g2)
          c.in-Ok.ensures.kept (summed_ungiven c.sum_up.result g0 g1 g2 quiet.1 c.sum_up.ensures.cause) c.in-Ok.ensures.ok
          (subst (λ s. Sums c.sum_up.result s (given c.open.new.replies) (given c.sum_up.new.replies)) c.summary.ensures c.sum_up.ensures.given);
      cause = summed_cause c.sum_up.result texts c.args.map.now f0 k0 t0 g0 f1 k1 g1 g2 quiet.0 c.in-Ok.ensures.keeps quiet.1 c.sum_up.ensures.cause;
      none_taken = (refl, c.in-Ok.ensures.kept);
      takes = refl;
      keeps = c.in-Ok.ensures.keeps;
      later = some_fell_not f0 k0 t0 g0 f1 k1 g2 c.in-Ok.ensures.fetches_later c.in-Ok.ensures.keeps (rw (sym quiet.1) c.sum_up.ensures.later);
    }

pub returns-in-Err : goal.returns-in-Err
returns-in-Err g c = λ left t0.
    let texts = g.V.Vault.texts c.args.vault.now in
    let given = g.R.Sink.given in let kept = g.V.Vault.kept in
    let fetches = g.V.Vault.fetch_faults in let keeps = g.V.Vault.keep_faults in let gives = g.R.Sink.faults in
    let f0 = fetches c.args.vault.now in let k0 = keeps c.args.vault.now in let g0 = gives c.args.replies.now in
    let f1 = fetches c.open.new.vault in let k1 = keeps c.open.new.vault in let g1 = gives c.open.new.replies in
    let status = c.in-Err.status in
    record {
      says = check_unopened c.opens_one_way_law.ensures c.opens_for_all_law.ensures texts c.args.map.now status
          left (given c.args.replies.now) (given c.open.new.replies) (kept c.args.vault.now) (kept c.open.new.vault)
          (Unfetched texts c.args.map.now (counts_of f0 k0 t0 g0) (counts_of f1 k1 t0 g1)) (Rose g0 g1)
          c.in-Err.ensures.kept
          (open_unfetched status texts c.args.map.now f0 k0 t0 g0 f1 k1 t0 g1 c.in-Err.ensures.cause)
          (open_ungiven status texts c.args.map.now f0 g0 f1 g1 c.in-Err.ensures.cause)
          c.in-Err.ensures.err;
      cause = unopened_check_cause status texts c.args.map.now f0 k0 t0 g0 f1 k1 g1 c.in-Err.ensures.keeps c.in-Err.ensures.cause;
      none_taken = (refl, c.in-Err.ensures.kept);
      takes = refl;
      keeps = c.in-Err.ensures.keeps;
      later = some_fell_not f0 k0 t0 g0 f1 k1 g1 c.in-Err.ensures.fetches_later c.in-Err.ensures.keeps c.in-Err.ensures.gives_later;
    }
