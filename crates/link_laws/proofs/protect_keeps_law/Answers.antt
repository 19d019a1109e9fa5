use Rattle.link_laws.proofs.ProtectKeeps.{protect_keeps}
use Rattle.link_laws.proofs.protect_keeps_law.Goals as goal

pub returns : goal.returns
returns c = protect_keeps
