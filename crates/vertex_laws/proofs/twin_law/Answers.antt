use Rattle.vertex_laws.proofs.TwoFaces.{twin}
use Rattle.vertex_laws.proofs.twin_law.Goals as goal

pub returns : goal.returns
returns c = twin
