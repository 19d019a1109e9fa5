use Rattle.algebra.proofs.Points.{side_of_mix}
use Rattle.algebra.proofs.side_of_mix_law.Goals as goal

pub returns : goal.returns
returns c = side_of_mix
