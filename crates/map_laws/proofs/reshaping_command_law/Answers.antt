use Rattle.map_laws.proofs.ReshapingCommands.{reshaping_command}
use Rattle.map_laws.proofs.reshaping_command_law.Goals as goal

pub returns : goal.returns
returns c = reshaping_command
