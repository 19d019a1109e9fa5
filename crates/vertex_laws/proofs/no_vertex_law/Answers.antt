use Rattle.vertex_laws.proofs.Criterion.{no_vertex}
use Rattle.vertex_laws.proofs.no_vertex_law.Goals as goal

pub returns : goal.returns
returns c = no_vertex
