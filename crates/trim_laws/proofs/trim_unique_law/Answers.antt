use Rattle.trim_laws.proofs.Once.{trim_unique}
use Rattle.trim_laws.proofs.trim_unique_law.Goals as goal

pub returns : goal.returns
returns c = trim_unique
