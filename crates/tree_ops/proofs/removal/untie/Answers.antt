use Rattle.std.proofs.Common.{ap, ap₂, ◌∙◌}
use Rattle.std.specs.Option.{unwrap_or}
use Rattle.map_model.specs.Tree.{whole}
use Rattle.map_model.specs.Edits.{swap, delete, move_all}
use Rattle.tree_ops.proofs.removal.untie.Goals as goal

pub returns : goal.returns
returns c =
    let w = swap (whole c.args.map.now) c.args.change.now in
    c.in_ok-delete.ensures ∙ ap (delete c.args.id) (c.in_ok-move_all.ensures ∙ ap₂ (λ p l. move_all p l w)
    (c.unwrap_or-place.ensures ∙ ap (λ o. unwrap_or o 0) c.parent.ensures) (c.deref.ensures.value ∙ c.in_ok-brushes.ensures))
