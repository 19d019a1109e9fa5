use Rattle.std.proofs.Common.{ap₂, subst, sym}
use Rattle.undo_log.specs.Log.{Keeps}
use Rattle.undo_log.proofs.Steps.{keeps_new}
use Rattle.tree_session.specs.Sitting.{state_at}
use Rattle.tree_session.proofs.session.Session.open.Goals as goal

pub invariant_of-result : goal.invariant_of-result
invariant_of-result c = subst (λ h. Keeps h c.args.map) (sym c.new.ensures) (keeps_new c.args.map c.is_map.ensures)

pub returns : goal.returns
returns c = ap₂ (λ h s. state_at c.args.map h s) c.new.ensures c.new-2.ensures
