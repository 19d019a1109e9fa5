use Rattle.std.proofs.Common.{[], ◌++◌, ap, ap₂, sym, ◌∙◌, append_assoc, option_map, unwrap_or}
use Rattle.map_model.specs.Tree.{brushes_of, others_of}
use Rattle.tree_node.specs.Walk.{stacked}
use Rattle.tree_node.proofs.Walks.{stacked_append}
use Rattle.tree_node.proofs.change.Change.push_children.Goals as goal

pub returns-in_ok-push_last_first-in-Some-2 : goal.returns-in_ok-push_last_first-in-Some-2
returns-in_ok-push_last_first-in-Some-2 c =
    let levels = c.args.levels in
    let old = c.args.waiting.now.items in
    let x = c.in-Some.node.now in
    c.in_ok-push_last_first-in-Some-2.ensures
    ∙ ap₂ (λ l ns. l ++ stacked levels ns) (c.in_ok-push_last_first-in-Some.ensures ∙ ap (λ ns. old ++ stacked levels ns) c.list.ensures) c.list-in-Some.ensures
    ∙ append_assoc old (stacked levels (others_of x)) (stacked levels (brushes_of x))
    ∙ ap (λ l. old ++ l) (sym (stacked_append levels (brushes_of x) (others_of x)) ∙ ap (λ o. stacked levels (unwrap_or (option_map (λ y. brushes_of y ++ others_of y) o) [])) c.in-Some.ensures)
