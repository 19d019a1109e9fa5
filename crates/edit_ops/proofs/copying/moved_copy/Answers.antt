use Rattle.std.proofs.Common.{◌≡◌, ap, sym, subst, ◌∙◌}
use Rattle.std.specs.Prelude.{unwrap_or, IfOk}
use Rattle.edit_ops.proofs.copying.moved_copy.Goals as goal

pub returns-in-Some : goal.returns-in-Some
returns-in-Some c = sym (ap (λ o. unwrap_or o c.args.node.now) c.in-Some.is) ∙ c.in_ok-new.ensures

pub returns-in-None : goal.returns-in-None
returns-in-None c =
    subst (λ x. IfOk c.copy.result (λ new. new ≡ x)) (sym (ap (λ o. unwrap_or o c.args.node.now) c.in-None.is) ∙ c.in_ok-new.ensures) c.copy.ensures
