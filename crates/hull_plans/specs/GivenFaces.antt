-- Planes and faces that are looked up by their half-spaces.
use Rattle.std.specs.Prelude.{List, map, Option, pos, ◌<ℤ◌}
use Rattle.std.specs.List.{find}
use Rattle.algebra.specs.Members.{Every}
use Rattle.algebra.specs.Space.{dot}
use Rattle.exact_geom.specs.Planes.{ThreePoints, half_space}
use Rattle.map_model.specs.Faces.{Face}
use Rattle.map_model.specs.Tree.{Whole}
use Rattle.map_model.specs.Brushes.{have_one_half_space}
use Rattle.map_model.specs.Commands.{Settings}
use Rattle.map_model.specs.Rows.{fields_for}

-- The plane bounds a half-space.
abbrev pub IsBound : ThreePoints → Type 0
IsBound t = pos 0 <ℤ dot (half_space t).normal (half_space t).normal

-- The first face in the half-space of a plane.
abbrev pub face_in : List Face → ThreePoints → Option Face
face_in faces t = find (λ f. have_one_half_space f.plane t) faces

-- A face on each plane, with the fields of the first given face in its half-space, else with plain ones.
abbrev pub faces_on : Settings → Whole → List Face → List ThreePoints → List Face
faces_on s m given planes = map (fields_for s m given) planes
