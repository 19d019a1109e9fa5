use Rattle.solid_laws.proofs.Exactly.{bears_exactly}
use Rattle.solid_laws.proofs.bears_exactly_law.Goals as goal

pub returns : goal.returns
returns c = bears_exactly
