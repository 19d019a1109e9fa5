use Rattle.trim_laws.proofs.Once.{trim_again}
use Rattle.trim_laws.proofs.trim_again_law.Goals as goal

pub returns : goal.returns
returns c = trim_again
