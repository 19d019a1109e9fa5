use Rattle.solid_laws.proofs.NoCause.{no_cause_of_trim}
use Rattle.solid_laws.proofs.no_cause_of_trim_law.Goals as goal

pub returns : goal.returns
returns c = no_cause_of_trim
