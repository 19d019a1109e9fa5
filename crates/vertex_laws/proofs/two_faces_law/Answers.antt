use Rattle.vertex_laws.proofs.TwoFaces.{two_faces}
use Rattle.vertex_laws.proofs.two_faces_law.Goals as goal

pub returns : goal.returns
returns c = two_faces
