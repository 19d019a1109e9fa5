use Rattle.map_laws.proofs.ReshapingCommands.{reshaping_apply}
use Rattle.map_laws.proofs.reshaping_apply_law.Goals as goal

pub returns : goal.returns
returns c = reshaping_apply
