use Rattle.map_laws.proofs.MovingCommands.{moving_apply}
use Rattle.map_laws.proofs.moving_apply_law.Goals as goal

pub returns : goal.returns
returns c = moving_apply
