use Rattle.vertex_laws.proofs.OneLoop.{one_loop}
use Rattle.vertex_laws.proofs.one_loop_law.Goals as goal

pub returns : goal.returns
returns c = one_loop
