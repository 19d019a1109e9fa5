use Rattle.link_laws.proofs.WorldKeeps.{material_keeps}
use Rattle.link_laws.proofs.material_keeps_law.Goals as goal

pub returns : goal.returns
returns c = material_keeps
