use Rattle.vertex_laws.proofs.Criterion.{no_volume}
use Rattle.vertex_laws.proofs.no_volume_law.Goals as goal

pub returns : goal.returns
returns c = no_volume
