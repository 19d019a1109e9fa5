use Rattle.algebra.proofs.Vectors.{cauchy}
use Rattle.algebra.proofs.cauchy_law.Goals as goal

pub returns : goal.returns
returns c = cauchy
