use Rattle.std.proofs.Common.{◌++◌, ◌∷◌, [], codes, ap, sym, ◌∙◌}
use Rattle.tree_file.proofs.SavedParts.{protected_some}
use Rattle.tree_file.proofs.props.push_protected.Goals as goal

pub returns : goal.returns
returns c =
    c.in_ok-push_pair.ensures
    ∙ ap (λ l. c.args.pairs.now.items ++ l)
    (ap (λ v. (codes "_tb_protected_properties", v) ∷ []) (c.deref.ensures.value ∙ c.in_ok-text.ensures)
    ∙ sym (protected_some c.args.keys.now (sym c.is_empty.ensures ∙ c.if-is_empty.false)))
