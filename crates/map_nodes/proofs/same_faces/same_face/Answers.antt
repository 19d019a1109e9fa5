use Rattle.std.proofs.Common.{rules}
use Rattle.map_nodes.proofs.SameParts.{decides_face}
use Rattle.map_nodes.proofs.same_faces.same_face.Goals as goal

pub returns : goal.returns
returns c = decides_face c.args.a.now c.args.b.now c.same_plane.result c.eq.result c.same_tex.result c.same_plane.ensures (search rules) c.same_tex.ensures
