use Rattle.trim_laws.proofs.Trimmed.{trim_inside}
use Rattle.trim_laws.proofs.trim_inside_law.Goals as goal

pub returns : goal.returns
returns c = trim_inside
