use Rattle.vertex_laws.proofs.Box.{box_leaves}
use Rattle.vertex_laws.proofs.box_leaves_law.Goals as goal

pub returns : goal.returns
returns c = box_leaves
