use Rattle.algebra.proofs.Fractions.{greatest_and_least}
use Rattle.algebra.proofs.greatest_and_least_law.Goals as goal

pub returns : goal.returns
returns g c = greatest_and_least _
