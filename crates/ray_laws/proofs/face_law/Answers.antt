use Rattle.ray_laws.proofs.FirstFace.{face_is}
use Rattle.ray_laws.proofs.face_law.Goals as goal

pub returns : goal.returns
returns c = face_is
