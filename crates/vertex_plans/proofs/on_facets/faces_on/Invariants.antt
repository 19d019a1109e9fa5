use Rattle.vertex_plans.proofs.FacesSoFar.{FacesBefore}
use Rattle.vertex_plans.proofs.on_facets.faces_on.Given as goal

abbrev pub invariant-loop-k : goal.invariant-loop-k
invariant-loop-k l = FacesBefore l.old l.facets l.sides l.k l.faces.items
