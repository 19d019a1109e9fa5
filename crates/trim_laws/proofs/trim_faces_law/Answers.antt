use Rattle.trim_laws.proofs.Faces.{trim_faces}
use Rattle.trim_laws.proofs.trim_faces_law.Goals as goal

pub returns : goal.returns
returns g c = trim_faces _
