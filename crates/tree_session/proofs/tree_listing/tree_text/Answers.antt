use Rattle.std.proofs.Common.{◌++◌, ap, ap₂, ◌∙◌}
use Rattle.std.specs.Prelude.{flat_map}
use Rattle.map_model.specs.Tree.{whole, preorder}
use Rattle.map_model.specs.Edits.{swap}
use Rattle.map_model.specs.Listings.{tree_line_at}
use Rattle.tree_session.proofs.Lines.{ok_is}
use Rattle.tree_session.proofs.tree_listing.tree_text.Goals as goal

pub returns : goal.returns
returns c =
    let m = whole c.args.map.now in
    c.into_text.ensures ∙ c.in_ok-put.ensures
    ∙ ap₂ (λ l k. l ++ k)
    (c.in_ok-put_nodes.ensures
    ∙ ap₂ (λ l ids. l ++ flat_map (tree_line_at m) ids) c.new-listing.ensures
    (c.deref.ensures.value ∙ c.in_ok-ids.ensures ∙ ap (λ d. preorder (swap m d) 0) c.new.ensures)) ok_is
