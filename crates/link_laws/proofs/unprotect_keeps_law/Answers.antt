use Rattle.link_laws.proofs.UnprotectKeeps.{unprotect_keeps}
use Rattle.link_laws.proofs.unprotect_keeps_law.Goals as goal

pub returns : goal.returns
returns c = unprotect_keeps
