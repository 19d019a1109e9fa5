use Rattle.std.proofs.Common.{[], ◌∷◌, ◌++◌, List, ℕ, get_or, set, ap, ap₂, ◌∙◌}
use Rattle.std.proofs.lemmas.List.{set-set}
use Rattle.tree_file.proofs.children.add_child.Goals as goal

pub returns : goal.returns
returns c =
    let lists : List (List ℕ) = c.args.lists.now in
    let parent = c.args.parent in
    let taken = c.into_vec-list.ensures ∙ c.take_list.ensures.taken in
    let new = c.of.ensures ∙ c.in_ok-push.ensures.items ∙ ap (λ l. l ++ c.args.child ∷ []) taken in
    ap₂ (λ l v. set l parent v) c.take_list.ensures.left new ∙ set-set lists parent [] (get_or lists parent [] ++ c.args.child ∷ [])
