use Rattle.std.proofs.Common.{◌∙◌}
use Rattle.outside_io.specs.Moved.{Rose}
use Rattle.map_model.specs.Tree.{whole}
use Rattle.edit_session.specs.Devices.{Unfetched, counts_of}
use Rattle.edit_session.proofs.EditExits.{edit_opened, edit_unopened, opened_leaves, unopened_leaves}
use Rattle.edit_session.proofs.Causes.{opened_cause, unopened_cause, open_unfetched, open_ungiven, none_fell, some_fell_not}
use Rattle.edit_session.proofs.edit_run.run_edit.Goals as goal

pub returns-in-Ok : goal.returns-in-Ok
returns-in-Ok g c =
    let texts = g.V.Vault.texts c.args.vault.now in
    let left = g.C.Source.left in let given = g.R.Sink.given in let kept = g.V.Vault.kept in
    let fetches = g.V.Vault.fetch_faults in let keeps = g.V.Vault.keep_faults in let takes = g.C.Source.faults in let gives = g.R.Sink.faults in
    let f0 = fetches c.args.vault.now in let k0 = keeps c.args.vault.now in let t0 = takes c.args.script.now in let g0 = gives c.args.replies.now in
    let f1 = fetches c.open.new.vault in let k1 = keeps c.open.new.vault in let g1 = gives c.open.new.replies in
    let now = counts_of (fetches c.serve_and_keep.new.vault) (keeps c.serve_and_keep.new.vault) (takes c.serve_and_keep.new.script) (gives c.serve_and_keep.new.replies) in
    let quiet = c.in-Ok.ensures.quiet in
    record {
      says = edit_opened c.opens_one_way_law.ensures texts c.args.map.now c.args.out.now (whole c.in-Ok.map) c.serve_and_keep.result
          (left c.args.script.now) (left c.serve_and_keep.new.script)
          (given c.args.replies.now) (given c.open.new.replies) (given c.serve_and_keep.new.replies)
          (kept c.args.vault.now) (kept c.open.new.vault) (kept c.serve_and_keep.new.vault)
          g0 g1 (gives c.serve_and_keep.new.replies) (Unfetched texts c.args.map.now (counts_of f0 k0 t0 g0) now)
          c.in-Ok.ensures.kept quiet.1 c.in-Ok.ensures.ok c.serve_and_keep.ensures.says;
      cause = opened_cause c.serve_and_keep.result texts c.args.map.now f0 k0 t0 g0 f1 k1 g1 now quiet.0 c.in-Ok.ensures.keeps quiet.1 c.serve_and_keep.ensures.cause;
      unkept = λ n. c.serve_and_keep.ensures.unkept n ∙ c.in-Ok.ensures.kept;
      unread = opened_leaves c.serve_and_keep.result (counts_of f1 k1 t0 g1) now _ _ c.serve_and_keep.ensures.cause;
      later = none_fell f0 k0 t0 g0 f1 k1 g1 now quiet.0 c.in-Ok.ensures.keeps quiet.1 c.serve_and_keep.ensures.later;
    }

pub returns-in-Err : goal.returns-in-Err
returns-in-Err g c =
    let texts = g.V.Vault.texts c.args.vault.now in
    let left = g.C.Source.left c.args.script.now in let given = g.R.Sink.given in let kept = g.V.Vault.kept in
    let fetches = g.V.Vault.fetch_faults in let keeps = g.V.Vault.keep_faults in let gives = g.R.Sink.faults in
    let f0 = fetches c.args.vault.now in let k0 = keeps c.args.vault.now in let t0 = g.C.Source.faults c.args.script.now in let g0 = gives c.args.replies.now in
    let f1 = fetches c.open.new.vault in let k1 = keeps c.open.new.vault in let g1 = gives c.open.new.replies in
    let status = c.in-Err.status in
    record {
      says = edit_unopened c.opens_one_way_law.ensures c.opens_for_all_law.ensures texts c.args.map.now c.args.out.now status
          left (given c.args.replies.now) (given c.open.new.replies) (kept c.args.vault.now) (kept c.open.new.vault)
          (Unfetched texts c.args.map.now (counts_of f0 k0 t0 g0) (counts_of f1 k1 t0 g1)) (Rose g0 g1)
          c.in-Err.ensures.kept
          (open_unfetched status texts c.args.map.now f0 k0 t0 g0 f1 k1 t0 g1 c.in-Err.ensures.cause)
          (open_ungiven status texts c.args.map.now f0 g0 f1 g1 c.in-Err.ensures.cause)
          c.in-Err.ensures.err;
      cause = unopened_cause status texts c.args.map.now f0 k0 t0 g0 f1 k1 g1 c.in-Err.ensures.keeps c.in-Err.ensures.cause;
      unkept = λ n. c.in-Err.ensures.kept;
      unread = unopened_leaves status texts c.args.map.now left (given c.args.replies.now) (given c.open.new.replies)
          (kept c.args.vault.now) (kept c.open.new.vault) t0 c.in-Err.ensures.kept c.in-Err.ensures.err;
      later = some_fell_not f0 k0 t0 g0 f1 k1 g1 c.in-Err.ensures.fetches_later c.in-Err.ensures.keeps c.in-Err.ensures.gives_later;
    }
