use Rattle.std.proofs.Common.{None, [], ◌∷◌, ap, ap₂, ◌∙◌}
use Rattle.std.specs.Option.{unwrap_or}
use Rattle.map_model.specs.Tree.{whole, Brush}
use Rattle.map_model.specs.Edits.{swap, put_at, draw}
use Rattle.tree_node.proofs.change.Change.put_after.Goals as goal

pub returns-clause-edit : goal.returns-clause-edit
returns-clause-edit c =
    let w = whole c.args.map.now in
    c.in_ok-put_at.ensures.edit ∙ ap₂ (λ i x. put_at c.args.id (c.args.id ∷ i ∷ []) x) c.in_ok-made.ensures.number
    (c.in_ok-made.ensures.drawn w ∙ ap (λ p. draw (Brush p None c.args.body) (swap w c.args.self.now)) (c.unwrap_or-parent.ensures ∙ ap (λ o. unwrap_or o 0) c.parent.ensures))
