use Rattle.map_laws.proofs.BoxCommand.{material_kept}
use Rattle.map_laws.proofs.material_law.Goals as goal

pub returns : goal.returns
returns c = material_kept
