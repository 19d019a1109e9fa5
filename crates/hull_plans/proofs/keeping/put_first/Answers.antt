use Rattle.std.proofs.Common.{◌-◌, length, take, drop, ap, refl, ◌∙◌}
use Rattle.map_model.specs.Edits.{each_in_turn, delete}
use Rattle.tree_node.specs.Held.{changed}
use Rattle.hull_plans.proofs.MergeOutcomes.{kept}
use Rattle.hull_plans.proofs.keeping.put_first.Goals as goal

pub returns : goal.returns
returns c =
    let ids = c.args.ids.now in
    let rest = take (length ids - 1) (drop 1 ids) in
    c.in_ok-delete_all.ensures ∙ ap (each_in_turn delete rest) c.in_ok-put_body.ensures.edit
    ∙ kept c.args.body ids rest c.index-ids-0.result (changed c.args.map.now c.args.change.now) c.requires.some c.index-ids-0.is refl
