use Rattle.std.proofs.Common.{ap, sym, ◌∙◌}
use Rattle.map_model.specs.Tree.{whole}
use Rattle.tree_ops.specs.Passing.{is_place_beneath_it}
use Rattle.tree_ops.proofs.Tests.{beneath_one}
use Rattle.tree_ops.proofs.rows.has_place_beneath.Goals as goal

pub returns-in-Some : goal.returns-in-Some
returns-in-Some c =
    c.lies_beneath_any.ensures ∙ beneath_one (whole c.args.map.now) c.in-Some.place c.args.id ∙ sym (ap (λ o. is_place_beneath_it (whole c.args.map.now) o c.args.id) c.in-Some.is)
