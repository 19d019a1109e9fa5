use Rattle.std.proofs.Common.{◌≡◌, ◌++◌, ◌∷◌, [], suc, Some, length, ap, ◌∙◌, append_assoc, add-one}
use Rattle.map_model.specs.Tree.{numbers_from, with_parent, with_brushes, with_others}
use Rattle.file_laws.specs.Build.{kept_brushes}
use Rattle.tree_file.specs.Passes.{bodies_of}
use Rattle.tree_file.specs.Slots.{placed_node, placed_slots}
use Rattle.tree_file.proofs.Pushing.{on_ok, placed_brushes}
use Rattle.tree_file.proofs.placing.push_place.Goals as goal

pub returns : goal.returns
returns c =
    let slots = c.args.slots.now.items in
    let number = c.args.number in
    let parent = c.args.parent in
    let r = c.args.reading in
    let brushes = c.into_parts-node.ensures.brushes in
    let count = c.body_count.ensures.count ∙ ap (λ l. length (bodies_of l)) (c.deref.ensures.value ∙ brushes) in
    let own : c.in_ok-own.own ≡ numbers_from (suc number) (length (kept_brushes r)) = c.in_ok-own.ensures ∙ (λ j. numbers_from (add-one number j) (count j)) in
    let others = c.put_list.ensures ∙ ap (with_others c.args.others) c.into_parts-node.ensures.node in
    let node : c.set_parent.new.self ≡ placed_node number parent c.args.others r = c.set_parent.ensures ∙ ap (with_parent parent) (c.put_list-2.ensures ∙ (λ j. with_brushes (own j) (others j))) in
    on_ok c.push_brushes.result _ (c.push_brushes.new.slots.items ≡ slots ++ placed_slots number parent c.args.others r)
    (λ e.
    e ∙ (λ j. (c.in_ok-push.ensures.items ∙ ap (λ n. slots ++ Some n ∷ []) node) j ++ placed_brushes number (brushes j))
    ∙ append_assoc slots (Some (placed_node number parent c.args.others r) ∷ []) (placed_brushes number r.brushes))
    c.push_brushes.ensures
