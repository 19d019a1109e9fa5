use Rattle.vertex_laws.proofs.OneLoop.{one_incoming}
use Rattle.vertex_laws.proofs.one_incoming_law.Goals as goal

pub returns : goal.returns
returns c = one_incoming
