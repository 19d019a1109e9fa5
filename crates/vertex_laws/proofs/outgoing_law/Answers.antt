use Rattle.vertex_laws.proofs.HalfEdge.{outgoing}
use Rattle.vertex_laws.proofs.outgoing_law.Goals as goal

pub returns : goal.returns
returns c = outgoing
