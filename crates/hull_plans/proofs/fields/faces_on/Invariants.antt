use Rattle.std.proofs.Common.{◌≡◌, take}
use Rattle.map_model.specs.Tree.{whole}
use Rattle.map_model.specs.Rows.{all_faces}
use Rattle.hull_plans.specs.GivenFaces.{faces_on}
use Rattle.hull_plans.proofs.fields.faces_on.Given as goal

abbrev pub invariant-loop-plane : goal.invariant-loop-plane
invariant-loop-plane l = l.faces.items ≡ faces_on l.set (whole l.map) (all_faces (whole l.map) l.ids) (take l.plane-index l.planes)
