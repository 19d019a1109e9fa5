use Rattle.std.proofs.Common.{refl, inl}
use Rattle.outside_io.specs.Moved.{Rose}
use Rattle.map_model.specs.Tree.{whole}
use Rattle.edit_session.specs.Devices.{Unfetched, counts_of}
use Rattle.edit_session.proofs.Causes.{open_unfetched, open_ungiven, some_fell_not}
use Rattle.edit_session.proofs.ExportExits.{export_opened, export_unopened, export_opened_cause, unopened_export_cause, still_only, export_fell_not}
use Rattle.edit_session.proofs.export_run.run_export.Goals as goal

pub returns-in-Ok : goal.returns-in-Ok
returns-in-Ok g c = λ left t0.
    let texts = g.V.Vault.texts c.args.vault.now in
    let given = g.R.Sink.given in let kept = g.V.Vault.kept in
    let fetches = g.V.Vault.fetch_faults in let keeps = g.V.Vault.keep_faults in let gives = g.R.Sink.faults in
    let f0 = fetches c.args.vault.now in let k0 = keeps c.args.vault.now in let g0 = gives c.args.replies.now in
    let f1 = fetches c.open.new.vault in let k1 = keeps c.open.new.vault in let g1 = gives c.open.new.replies in
    let f2 = fetches c.export.new.vault in let k2 = keeps c.export.new.vault in let g2 = gives c.export.new.replies in
    let quiet = c.in-Ok.ensures.quiet in
    record {
      says = export_opened c.opens_one_way_law.ensures texts c.args.map.now c.args.out.now (whole c.in-Ok.map) c.export.result left
          (given c.args.replies.now) (given c.open.new.replies) (given c.export.new.replies)
          (kept c.args.vault.now) (kept c.open.new.vault) (kept c.export.new.vault) g0 g1 g2
          (Unfetched texts c.args.map.now (counts_of f0 k0 t0 g0) (counts_of f2 k2 t0 g2))
          c.in-Ok.ensures.kept quiet.1 c.in-Ok.ensures.ok c.export.ensures.says;
      cause = export_opened_cause c.export.result texts c.args.map.now f0 k0 t0 g0 f1 k1 g1 f2 k2 g2 quiet.0 c.in-Ok.ensures.keeps quiet.1 c.export.ensures.fetches c.export.ensures.cause;
      unkept = still_only c.export.result (kept c.args.vault.now) (kept c.open.new.vault) (kept c.export.new.vault) g0 g1 g2 c.in-Ok.ensures.kept quiet.1 c.export.ensures.unkept;
      left = refl;
      takes = refl;
      later = export_fell_not f0 k0 t0 g0 f1 k1 g1 f2 k2 g2 quiet.0 c.in-Ok.ensures.keeps quiet.1 c.export.ensures.fetches c.export.ensures.keeps_later c.export.ensures.gives_later;
    }

pub returns-in-Err : goal.returns-in-Err
returns-in-Err g c = λ left t0.
    let texts = g.V.Vault.texts c.args.vault.now in
    let given = g.R.Sink.given in let kept = g.V.Vault.kept in
    let fetches = g.V.Vault.fetch_faults in let keeps = g.V.Vault.keep_faults in let gives = g.R.Sink.faults in
    let f0 = fetches c.args.vault.now in let k0 = keeps c.args.vault.now in let g0 = gives c.args.replies.now in
    let f1 = fetches c.open.new.vault in let k1 = keeps c.open.new.vault in let g1 = gives c.open.new.replies in
    let status = c.in-Err.status in
    record {
      says = export_unopened c.opens_one_way_law.ensures c.opens_for_all_law.ensures texts c.args.map.now c.args.out.now status
          left (given c.args.replies.now) (given c.open.new.replies) (kept c.args.vault.now) (kept c.open.new.vault)
          (Unfetched texts c.args.map.now (counts_of f0 k0 t0 g0) (counts_of f1 k1 t0 g1)) (Rose g0 g1)
          c.in-Err.ensures.kept
          (open_unfetched status texts c.args.map.now f0 k0 t0 g0 f1 k1 t0 g1 c.in-Err.ensures.cause)
          (open_ungiven status texts c.args.map.now f0 g0 f1 g1 c.in-Err.ensures.cause)
          c.in-Err.ensures.err;
      cause = unopened_export_cause status texts c.args.map.now f0 k0 t0 g0 f1 k1 g1 c.in-Err.ensures.keeps c.in-Err.ensures.cause;
      unkept = λ n. inl c.in-Err.ensures.kept;
      left = refl;
      takes = refl;
      later = some_fell_not f0 k0 t0 g0 f1 k1 g1 c.in-Err.ensures.fetches_later c.in-Err.ensures.keeps c.in-Err.ensures.gives_later;
    }
