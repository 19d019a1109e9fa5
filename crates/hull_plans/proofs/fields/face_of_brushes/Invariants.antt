use Rattle.map_model.specs.Tree.{whole}
use Rattle.hull_plans.proofs.FirstFaces.{Searching}
use Rattle.hull_plans.proofs.fields.face_of_brushes.Given as goal

abbrev pub invariant-loop-id : goal.invariant-loop-id
invariant-loop-id l = Searching (whole l.map) l.ids l.plane l.id-index
