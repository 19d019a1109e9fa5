use Rattle.algebra.proofs.Ratio.{ratio_test}
use Rattle.algebra.proofs.ratio_test_law.Goals as goal

pub returns : goal.returns
returns c = ratio_test
