use Rattle.vertex_laws.proofs.Cube.{in_cube}
use Rattle.vertex_laws.proofs.in_cube_law.Goals as goal

pub returns : goal.returns
returns c = in_cube
