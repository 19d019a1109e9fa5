use Rattle.vertex_laws.proofs.Criterion.{volume}
use Rattle.vertex_laws.proofs.volume_law.Goals as goal

pub returns : goal.returns
returns c = volume
