use Rattle.std.proofs.Common.{◌+◌, ◌++◌, ◌∷◌, [], ap, sym, ◌∙◌, add-one}
use Rattle.map_model.specs.Tree.{numbers_from}
use Rattle.tree_node.proofs.Turns.{numbers-more}
use Rattle.tree_file.proofs.placing.ids_from.Goals as goal

pub loop-k-preserved : goal.loop-k-preserved
loop-k-preserved c =
    let first = c.args.first in
    let k = c.loop-k.k in
    c.in_ok-push.ensures.items ∙ ap (λ l. l ++ (first + k) ∷ []) c.loop-k.invariant ∙ sym (numbers-more first k) ∙ ap (numbers_from first) (sym (add-one k))
