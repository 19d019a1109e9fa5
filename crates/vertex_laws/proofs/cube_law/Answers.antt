use Rattle.vertex_laws.proofs.Cube.{cube_bounded}
use Rattle.vertex_laws.proofs.cube_law.Goals as goal

pub returns : goal.returns
returns c = cube_bounded
