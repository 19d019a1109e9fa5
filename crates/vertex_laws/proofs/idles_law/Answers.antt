use Rattle.vertex_laws.proofs.Criterion.{idles}
use Rattle.vertex_laws.proofs.idles_law.Goals as goal

pub returns : goal.returns
returns c = idles
