use Rattle.trim_laws.proofs.Cause.{one_cause}
use Rattle.trim_laws.proofs.one_cause_law.Goals as goal

pub returns : goal.returns
returns c = one_cause
