use Rattle.vertex_laws.proofs.Loop.{loop}
use Rattle.vertex_laws.proofs.loop_law.Goals as goal

pub returns : goal.returns
returns c = loop
