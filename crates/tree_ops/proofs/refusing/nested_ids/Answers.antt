use Rattle.std.proofs.Common.{◌||◌, ap, ap₂, ◌∙◌}
use Rattle.std.specs.List.{list_any}
use Rattle.map_model.specs.Tree.{whole, lies_beneath}
use Rattle.map_model.specs.Replies.{NestedIds}
use Rattle.map_model.specs.Rows.{refuse, at_each}
use Rattle.tree_ops.specs.Passing.{passes, is_place_beneath_it}
use Rattle.tree_ops.proofs.CommandRows.{nested_is}
use Rattle.tree_ops.proofs.refusing.nested_ids.Goals as goal

pub returns : goal.returns
returns c =
    let m = whole c.args.map.now in
    c.nested_ids.ensures
    ∙ ap₂ (λ l o. passes (at_each l (λ n. refuse (list_any (lies_beneath m n) l || is_place_beneath_it m o n) (NestedIds n)))) c.taken.ensures c.place_of.ensures
    ∙ ap passes (nested_is m c.args.c.now)
