use Rattle.map_laws.proofs.TreeCommands.{unlinked_apply}
use Rattle.map_laws.proofs.unlinked_apply_law.Goals as goal

pub returns : goal.returns
returns c = unlinked_apply
