use Rattle.vertex_laws.proofs.Criterion.{bears}
use Rattle.vertex_laws.proofs.bears_law.Goals as goal

pub returns : goal.returns
returns c = bears
