use Rattle.map_laws.proofs.TreeCommands.{tree_command}
use Rattle.map_laws.proofs.tree_command_law.Goals as goal

pub returns : goal.returns
returns c = tree_command
