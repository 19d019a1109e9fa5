use Rattle.std.proofs.Common.{Ok, ap, subst, sym, ◌∙◌}
use Rattle.tree_session.specs.Sitting.{state_at, state_of, answer_of, ObeysOrStops}
use Rattle.tree_session.proofs.WhichWords.{step_of}
use Rattle.tree_session.proofs.session.Session.step.Goals as goal

pub returns-in-Ok-Some : goal.returns-in-Ok-Some
returns-in-Ok-Some c =
    let t = state_at c.obey.new.map c.obey.new.history.records c.obey.new.settings in
    step_of (state_of c.args.self.now) c.args.line.now c.in-Ok-Some.command (answer_of c.obey.result) t
    (sym (ap Ok c.in-Ok-Some.field-0-is) ∙ c.in-Ok-Some.ensures.value)
    (subst (λ s. ObeysOrStops s c.in-Ok-Some.command (answer_of c.obey.result) t) (ap state_of c.self.view_is) c.obey.ensures.answer)
