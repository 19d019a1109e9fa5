use Rattle.solid_laws.proofs.World.{world_bounded}
use Rattle.solid_laws.proofs.world_bounded_law.Goals as goal

pub returns : goal.returns
returns c = world_bounded
