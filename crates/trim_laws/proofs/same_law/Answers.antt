use Rattle.trim_laws.proofs.SameHalfSpace.{same}
use Rattle.trim_laws.proofs.same_law.Goals as goal

pub returns : goal.returns
returns c = same
