use Rattle.vertex_laws.proofs.Box.{box_volume}
use Rattle.vertex_laws.proofs.box_volume_law.Goals as goal

pub returns : goal.returns
returns c = box_volume
