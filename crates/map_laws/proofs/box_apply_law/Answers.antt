use Rattle.map_laws.proofs.BoxCommand.{box_apply}
use Rattle.map_laws.proofs.box_apply_law.Goals as goal

pub returns : goal.returns
returns c = box_apply
