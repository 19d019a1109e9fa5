use Rattle.std.proofs.Common.{ap, ◌∙◌}
use Rattle.map_model.specs.Tree.{whole}
use Rattle.map_model.specs.Replies.{LockedLayer}
use Rattle.map_model.specs.Rows.{refuse, at_each, is_in_frozen}
use Rattle.tree_ops.specs.Passing.{passes}
use Rattle.tree_ops.proofs.CommandRows.{locked_is}
use Rattle.tree_ops.proofs.refusing.locked_layer.Goals as goal

pub returns-in_default : goal.returns-in_default
returns-in_default c =
    let m = whole c.args.map.now in
    c.locked_layer.ensures ∙ ap (λ l. passes (at_each l (λ n. refuse (is_in_frozen m n) (LockedLayer n)))) c.requires.these
    ∙ ap passes (locked_is m c.args.c.now c.requires.own c.in_default.not-Freeze c.in_default.not-Thaw)
