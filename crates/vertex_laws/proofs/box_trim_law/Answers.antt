use Rattle.vertex_laws.proofs.Box.{box_trim}
use Rattle.vertex_laws.proofs.box_trim_law.Goals as goal

pub returns : goal.returns
returns c = box_trim
