-- Faces with plain fields.
use Rattle.std.specs.Prelude.{List, map}
use Rattle.exact_geom.specs.Planes.{ThreePoints}
use Rattle.map_model.specs.Faces.{Face}
use Rattle.map_model.specs.Tree.{Whole}
use Rattle.map_model.specs.Commands.{Settings}
use Rattle.map_model.specs.Rows.{plain_face}

-- A plain face on each of the planes.
abbrev pub plain_faces : Settings → Whole → List ThreePoints → List Face
plain_faces s m planes = map (plain_face s m) planes
