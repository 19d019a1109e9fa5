use Rattle.solid_laws.proofs.Exactly.{inside_exactly}
use Rattle.solid_laws.proofs.inside_exactly_law.Goals as goal

pub returns : goal.returns
returns c = inside_exactly
