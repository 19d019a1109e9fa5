use Rattle.algebra.proofs.Points.{common_point}
use Rattle.algebra.proofs.common_point_law.Goals as goal

pub returns : goal.returns
returns c = common_point
