use Rattle.std.proofs.Common.{◌≡◌, take}
use Rattle.map_model.specs.Tree.{whole}
use Rattle.map_model.specs.Rows.{all_faces}
use Rattle.cut_plans.proofs.intersecting.all_faces.Given as goal

abbrev pub invariant-loop-id : goal.invariant-loop-id
invariant-loop-id l = l.all.items ≡ all_faces (whole l.map) (take l.id-index l.ids)
