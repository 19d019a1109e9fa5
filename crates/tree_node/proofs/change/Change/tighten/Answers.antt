use Rattle.std.proofs.Common.{ap, ◌∙◌}
use Rattle.map_model.specs.Tree.{whole}
use Rattle.map_model.specs.Edits.{swap}
use Rattle.tree_node.proofs.Tightening.{tightened, tightened_same}
use Rattle.tree_node.proofs.change.Change.tighten.Goals as goal

pub returns-clause-same : goal.returns-clause-same
returns-clause-same c = tightened_same (whole c.args.map.now) c.self.inside.entries.items c.keep_different.new.entries.items c.self.inside.next c.keep_different.ensures
    ∙ ap (swap (whole c.args.map.now)) c.self.view_is

pub returns-clause-tight : goal.returns-clause-tight
returns-clause-tight c = tightened (whole c.args.map.now) c.self.inside.entries.items c.keep_different.new.entries.items c.self.inside.next c.keep_different.ensures
