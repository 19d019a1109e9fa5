use Rattle.vertex_laws.proofs.CubeValid.{cube_valid}
use Rattle.vertex_laws.proofs.cube_valid_law.Goals as goal

pub returns : goal.returns
returns c = cube_valid
