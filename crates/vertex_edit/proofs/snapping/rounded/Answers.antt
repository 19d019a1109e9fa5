use Rattle.std.proofs.Common.{subst, w32}
use Rattle.std.proofs.lemmas.Int.{to_z-of_z}
use Rattle.vertex_edit.specs.Places.{IsRoundedTo}
use Rattle.vertex_edit.proofs.snapping.rounded.Goals as goal

pub returns-clause-rounded : goal.returns-clause-rounded
returns-clause-rounded c = subst (λ g. IsRoundedTo g c.args.vertex.now c.round.result) (to_z-of_z w32 c.args.grid c.ranges.grid) c.round.ensures.rounded
