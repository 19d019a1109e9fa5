use Rattle.algebra.proofs.Fractions.{fraction_order}
use Rattle.algebra.proofs.fraction_order_law.Goals as goal

pub returns : goal.returns
returns c = fraction_order
