use Rattle.vertex_laws.proofs.TrimVertex.{edge}
use Rattle.vertex_laws.proofs.edge_law.Goals as goal

pub returns : goal.returns
returns c = edge
