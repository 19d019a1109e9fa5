use Rattle.poly_laws.proofs.Neats.{neat}
use Rattle.poly_laws.proofs.neat_law.Goals as goal

pub returns : goal.returns
returns c = neat
