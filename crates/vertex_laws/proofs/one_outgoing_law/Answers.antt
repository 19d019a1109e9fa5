use Rattle.vertex_laws.proofs.HalfEdge.{one_outgoing}
use Rattle.vertex_laws.proofs.one_outgoing_law.Goals as goal

pub returns : goal.returns
returns c = one_outgoing
