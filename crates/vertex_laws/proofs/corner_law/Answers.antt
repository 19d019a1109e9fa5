use Rattle.vertex_laws.proofs.Corner.{corner_below}
use Rattle.vertex_laws.proofs.corner_law.Goals as goal

pub returns : goal.returns
returns c = corner_below
