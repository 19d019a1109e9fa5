use Rattle.std.proofs.Common.{◌≡◌, take}
use Rattle.exact_geom.specs.Planes.{half_space}
use Rattle.vertex_edit.specs.Carrying.{count_on}
use Rattle.vertex_edit.proofs.old_face.count_on.Given as goal

abbrev pub invariant-loop-vertex : goal.invariant-loop-vertex
invariant-loop-vertex l = l.count ≡ count_on (take l.vertex-index l.vertices) (half_space l.plane)
