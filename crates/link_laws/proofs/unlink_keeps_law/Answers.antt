use Rattle.link_laws.proofs.UnlinkKeeps.{unlink_keeps}
use Rattle.link_laws.proofs.unlink_keeps_law.Goals as goal

pub returns : goal.returns
returns c = unlink_keeps
