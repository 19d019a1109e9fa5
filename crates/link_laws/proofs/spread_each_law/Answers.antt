use Rattle.link_laws.proofs.EditedGroups.{spread_each_is}
use Rattle.link_laws.proofs.spread_each_law.Goals as goal

pub returns : goal.returns
returns c = spread_each_is
