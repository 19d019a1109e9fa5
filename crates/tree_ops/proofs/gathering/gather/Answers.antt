use Rattle.std.proofs.Common.{ap, ap₂, ◌∙◌}
use Rattle.map_model.specs.Tree.{whole, container}
use Rattle.map_model.specs.Edits.{swap, move_all, put_last}
use Rattle.tree_ops.proofs.gathering.gather.Goals as goal

pub returns : goal.returns
returns c =
    let w = swap (whole c.args.map.now) c.args.change.now in
    c.in_ok-move_all.ensures ∙ ap₂ (λ p x. move_all p c.args.ids.now x) c.in_ok-made.ensures.0
    (c.in_ok-made.ensures.1 ∙ ap (λ p. put_last p c.args.node w) (c.container-place.ensures ∙ ap (container w) c.first_of.ensures))
