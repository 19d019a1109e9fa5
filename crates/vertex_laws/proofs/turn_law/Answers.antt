use Rattle.vertex_laws.proofs.HalfEdge.{turns}
use Rattle.vertex_laws.proofs.turn_law.Goals as goal

pub returns : goal.returns
returns c = turns
