use Rattle.solid_laws.proofs.BoxVertices.{box_vertices}
use Rattle.solid_laws.proofs.box_vertices_law.Goals as goal

pub returns : goal.returns
returns c = box_vertices
