use Rattle.map_model.specs.Brushes.{have_one_half_space}
use Rattle.hull_plans.proofs.FirstFaces.{Sought}
use Rattle.hull_plans.proofs.fields.face_of.Given as goal

abbrev pub invariant-loop-face : goal.invariant-loop-face
invariant-loop-face l = Sought (λ f. have_one_half_space f.plane l.plane) l.faces l.face-index
