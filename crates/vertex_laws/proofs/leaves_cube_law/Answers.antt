use Rattle.vertex_laws.proofs.Cube.{leaves_cube}
use Rattle.vertex_laws.proofs.leaves_cube_law.Goals as goal

pub returns : goal.returns
returns c = leaves_cube
