use Rattle.solid_laws.proofs.OneLoop.{one_numbered_loop}
use Rattle.solid_laws.proofs.one_numbered_loop_law.Goals as goal

pub returns : goal.returns
returns c = one_numbered_loop
