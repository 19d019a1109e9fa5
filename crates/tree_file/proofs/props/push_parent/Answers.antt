use Rattle.std.proofs.Common.{◌++◌, ◌∷◌, [], codes, decimal, Some, ap, sym, ◌∙◌}
use Rattle.map_model.specs.Tree.{whole}
use Rattle.tree_file.proofs.SavedParts.{parent_layer, parent_group}
use Rattle.tree_file.proofs.props.push_parent.Goals as goal

pub returns-in_ok-push_number-in-Some-Layer : goal.returns-in_ok-push_number-in-Some-Layer
returns-in_ok-push_number-in-Some-Layer c =
    c.in_ok-push_number-in-Some-Layer.ensures
    ∙ ap (λ l. c.args.pairs.now.items ++ l)
    (ap (λ n. (codes "_tb_layer", decimal n) ∷ []) (c.id.ensures ∙ c.requires.ids c.args.parent)
    ∙ sym (parent_layer (whole c.args.map.now) c.args.parent (sym c.in-Some-Layer.ensures ∙ ap Some c.in-Some-Layer.field-0-is)))

pub returns-in_ok-push_number-in-Some-Group : goal.returns-in_ok-push_number-in-Some-Group
returns-in_ok-push_number-in-Some-Group c =
    c.in_ok-push_number-in-Some-Group.ensures
    ∙ ap (λ l. c.args.pairs.now.items ++ l)
    (ap (λ n. (codes "_tb_group", decimal n) ∷ []) (c.id-in-Some-Group.ensures ∙ c.requires.ids c.args.parent)
    ∙ sym (parent_group (whole c.args.map.now) c.args.parent (sym c.in-Some-Group.ensures ∙ ap Some c.in-Some-Group.field-0-is)))
