use Rattle.trim_laws.proofs.Trimmed.{trim}
use Rattle.trim_laws.proofs.trim_law.Goals as goal

pub returns : goal.returns
returns c = trim
