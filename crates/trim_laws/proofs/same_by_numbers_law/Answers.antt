use Rattle.trim_laws.proofs.SameHalfSpace.{same_by_numbers}
use Rattle.trim_laws.proofs.same_by_numbers_law.Goals as goal

pub returns : goal.returns
returns c = same_by_numbers
