use Rattle.std.proofs.Common.{ap, sym, ◌∙◌}
use Rattle.map_model.specs.Machine.{current}
use Rattle.tree_session.specs.Sitting.{state_of}
use Rattle.tree_session.proofs.States.{current_is}
use Rattle.tree_session.proofs.session.Session.map.Goals as goal

pub returns-clause-current : goal.returns-clause-current
returns-clause-current c =
    sym (current_is c.self.inside.map c.self.inside.history.records c.self.inside.settings) ∙ ap (λ s. current (state_of s)) c.self.view_is
