use Rattle.csg_ops.proofs.ShortVertices.{short_by_vertices}
use Rattle.csg_ops.proofs.laws.short_by_vertices_law.Goals as goal

pub returns : goal.returns
returns c = short_by_vertices
