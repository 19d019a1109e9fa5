use Rattle.ray_laws.proofs.Reaching.{reach_is}
use Rattle.ray_laws.proofs.reach_law.Goals as goal

pub returns : goal.returns
returns c = reach_is
