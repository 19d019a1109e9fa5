use Rattle.link_laws.proofs.CopyKeeps.{copy_keeps}
use Rattle.link_laws.proofs.copy_keeps_law.Goals as goal

pub returns : goal.returns
returns c = copy_keeps
