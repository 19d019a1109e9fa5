use Rattle.std.proofs.Common.{[], ◌++◌, ap, ap₂, ◌∙◌}
use Rattle.std.specs.Prelude.{unwrap_or, option_map}
use Rattle.map_model.specs.Tree.{whole, at}
use Rattle.map_model.specs.Listings.{lines_of_node}
use Rattle.tree_session.proofs.Lines.{ok_is}
use Rattle.tree_session.proofs.show_listing.show_text.Goals as goal

pub returns : goal.returns
returns c b right =
    c.into_text.ensures ∙ c.in_ok-put.ensures
    ∙ ap₂ (λ l k. l ++ k)
    (c.in_ok-put_node_at.ensures b right
    ∙ ap (λ l. l ++ unwrap_or (option_map (lines_of_node b c.args.id) (at (whole c.args.map.now) c.args.id)) []) c.new-listing.ensures) ok_is
