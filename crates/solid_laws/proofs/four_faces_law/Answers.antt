use Rattle.solid_laws.proofs.FourFaces.{four_faces}
use Rattle.solid_laws.proofs.four_faces_law.Goals as goal

pub returns : goal.returns
returns c = four_faces
