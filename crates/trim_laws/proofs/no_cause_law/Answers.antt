use Rattle.trim_laws.proofs.Cause.{no_cause}
use Rattle.trim_laws.proofs.no_cause_law.Goals as goal

pub returns : goal.returns
returns c = no_cause
