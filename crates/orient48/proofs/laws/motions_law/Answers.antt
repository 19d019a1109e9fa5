use Rattle.orient48.proofs.Following.{follows}
use Rattle.orient48.proofs.laws.motions_law.Goals as goal

pub returns : goal.returns
returns c = follows
