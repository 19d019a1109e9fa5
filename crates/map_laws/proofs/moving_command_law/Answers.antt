use Rattle.map_laws.proofs.MovingCommands.{moving_command}
use Rattle.map_laws.proofs.moving_command_law.Goals as goal

pub returns : goal.returns
returns c = moving_command
