use Rattle.std.proofs.Common.{◌≡◌, ◌+◌, ◌≤◌, ◌∷◌, ◌++◌, [], length, ap, subst, sym, ◌∙◌, arith}
use Rattle.map_model.specs.History.{added}
use Rattle.undo_log.specs.Log.{HasOneMore, records_at}
use Rattle.undo_log.proofs.Lists.{added_is}
use Rattle.undo_log.proofs.Steps.{one_more}
use Rattle.undo_log.proofs.history.History.add.Goals as goal

pub returns-clause-records : goal.returns-clause-records
returns-clause-records c =
    let cs = c.self.inside.changes.items in let p = c.self.inside.place in
    let size = c.self.inside.changes.ok.0 in
    let within : p ≤ length cs = omega (arith, size, c.self.invariant) in
    ap (records_at (p + 1)) (c.push_reserved.ensures.items ∙ ap (λ l. l ++ c.args.c ∷ []) c.truncate.ensures.items)
    ∙ added_is cs p c.args.c within ∙ ap (added c.args.c) (ap (λ l. l.records) c.self.view_is)

pub returns-clause-maps : goal.returns-clause-maps
returns-clause-maps c before after keeps leads =
    subst (λ h. HasOneMore c.args.self.now.records before h after) (sym (returns-clause-records c))
    (one_more c.args.self.now.records c.args.c before after keeps leads)
