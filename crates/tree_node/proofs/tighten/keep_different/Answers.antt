use Rattle.std.proofs.Common.{rules}
use Rattle.map_model.specs.Tree.{whole}
use Rattle.tree_node.proofs.Tightening.{keeps_different}
use Rattle.tree_node.proofs.tighten.keep_different.Goals as goal

pub returns : goal.returns
returns c = keeps_different (whole c.args.map.now) _ _ (λ e b g k. search rules) _ _ c.retain.ensures.filtered c.requires.rising
