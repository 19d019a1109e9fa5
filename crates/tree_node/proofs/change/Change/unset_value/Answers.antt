use Rattle.std.proofs.Common.{sym, ◌∙◌}
use Rattle.map_model.specs.Tree.{whole, with_props, props_of}
use Rattle.map_model.specs.Props.{without_key}
use Rattle.map_model.specs.Edits.{swap}
use Rattle.tree_node.proofs.Changes.{renew-absent}
use Rattle.tree_node.proofs.change.Change.unset_value.Goals as goal

pub returns-in-None-clause-edit : goal.returns-in-None-clause-edit
returns-in-None-clause-edit c = renew-absent (swap (whole c.args.map.now) c.args.self.now) c.args.id (λ x. with_props (without_key c.args.key.now (props_of x)) x) (sym c.in_ok-node.ensures ∙ c.in-None.is)
