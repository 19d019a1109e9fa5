use Rattle.std.proofs.Common.{None, map, ap, ap₂, ◌∙◌}
use Rattle.std.specs.Option.{unwrap_or}
use Rattle.map_model.specs.Tree.{whole, Brush}
use Rattle.map_model.specs.Edits.{swap, set, put_at, draw, each_in_turn}
use Rattle.tree_node.proofs.change.Change.replace_by.Goals as goal

pub returns : goal.returns
returns c =
    let w = whole c.args.map.now in
    c.in_ok-forget.ensures w
    ∙ ap (λ x. set x c.args.id None) (c.in_ok-put_at.ensures.edit ∙ ap₂ (put_at c.args.id) (c.deref.ensures.value ∙ c.in_ok-made.ensures.ids)
    (c.in_ok-made.ensures.drawn w ∙ ap (λ p. each_in_turn draw (map (Brush p None) c.args.bodies.items) (swap w c.args.self.now)) (c.unwrap_or-place.ensures ∙ ap (λ o. unwrap_or o 0) c.parent.ensures)))
