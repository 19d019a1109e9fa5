use Rattle.algebra.proofs.Points.{plane_through}
use Rattle.algebra.proofs.plane_through_law.Goals as goal

pub returns : goal.returns
returns c = plane_through
