use Rattle.vertex_laws.proofs.TrimVertex.{trim_vertex_back}
use Rattle.vertex_laws.proofs.trim_vertex_back_law.Goals as goal

pub returns : goal.returns
returns c = trim_vertex_back
