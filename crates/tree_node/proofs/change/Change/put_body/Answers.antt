use Rattle.std.proofs.Common.{sym, ◌∙◌}
use Rattle.map_model.specs.Tree.{whole, with_faces}
use Rattle.map_model.specs.Edits.{swap}
use Rattle.tree_node.proofs.Changes.{renew-absent}
use Rattle.tree_node.proofs.change.Change.put_body.Goals as goal

pub returns-in-None-clause-edit : goal.returns-in-None-clause-edit
returns-in-None-clause-edit c = renew-absent (swap (whole c.args.map.now) c.args.self.now) c.args.id (with_faces c.args.body) (sym c.in_ok-node.ensures ∙ c.in-None.is)
