use Rattle.trim_laws.proofs.Once.{valid}
use Rattle.trim_laws.proofs.valid_law.Goals as goal

pub returns : goal.returns
returns c = valid
