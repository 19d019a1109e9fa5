use Rattle.map_laws.proofs.BoxCommand.{box_command}
use Rattle.map_laws.proofs.box_command_law.Goals as goal

pub returns : goal.returns
returns c = box_command
