use Rattle.piece_laws.proofs.Faces.{pieces}
use Rattle.piece_laws.proofs.pieces_law.Goals as goal

pub returns : goal.returns
returns g c = pieces _
