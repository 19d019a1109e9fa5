use Rattle.trim_laws.proofs.Trimmed.{trim_back}
use Rattle.trim_laws.proofs.trim_back_law.Goals as goal

pub returns : goal.returns
returns c = trim_back
