use Rattle.link_laws.proofs.CommandsKeep.{tree_keeps}
use Rattle.link_laws.proofs.tree_keeps_law.Goals as goal

pub returns : goal.returns
returns c = tree_keeps
