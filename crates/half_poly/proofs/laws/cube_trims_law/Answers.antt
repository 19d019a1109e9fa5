use Rattle.half_poly.proofs.CutTrims.{cube_trims}
use Rattle.half_poly.proofs.laws.cube_trims_law.Goals as goal

pub returns : goal.returns
returns c = cube_trims
