use Rattle.std.proofs.Common.{ap₂, ◌∙◌}
use Rattle.map_model.specs.Tree.{whole}
use Rattle.map_model.specs.Edits.{forget}
use Rattle.tree_node.proofs.change.Change.delete.Goals as goal

pub returns : goal.returns
returns c = c.in_ok-forget.ensures (whole c.args.map.now) ∙ ap₂ forget (c.deref.ensures.value ∙ c.in_ok-gone.ensures) c.in_ok-take_out.ensures.edit
