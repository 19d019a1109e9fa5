use Rattle.solid_laws.proofs.Holds.{holds_vertices}
use Rattle.solid_laws.proofs.holds_vertices_law.Goals as goal

pub returns : goal.returns
returns c = holds_vertices
