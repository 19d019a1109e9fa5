use Rattle.std.proofs.Common.{◌≡◌, map, take}
use Rattle.map_model.specs.Tree.{whole}
use Rattle.map_model.specs.Rows.{plain_face}
use Rattle.brush_plans.proofs.new_faces.plain_faces.Given as goal

abbrev pub invariant-loop-plane : goal.invariant-loop-plane
invariant-loop-plane l = l.faces.items ≡ map (plain_face l.set (whole l.map)) (take l.plane-index l.planes)
