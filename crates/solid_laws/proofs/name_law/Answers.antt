use Rattle.solid_laws.proofs.Name.{name}
use Rattle.solid_laws.proofs.name_law.Goals as goal

pub returns : goal.returns
returns c = name
