use Rattle.std.proofs.Common.{ap, ◌∙◌}
use Rattle.map_model.specs.Edits.{swap, set}
use Rattle.tree_node.proofs.Changes.{swap-put}
use Rattle.tree_node.proofs.change.Change.put.Goals as goal

pub returns-clause-ok : goal.returns-clause-ok
returns-clause-ok c = λ m. swap-put m c.self.inside.entries.items c.put_entry.new.entries.items c.self.inside.next c.args.id c.args.node c.in_ok-put_entry.ensures.by
    ∙ ap (λ x. set (swap m x) c.args.id c.args.node) c.self.view_is

pub returns-clause-next : goal.returns-clause-next
returns-clause-next c = ap (λ d. d.next) c.self.view_is
