use Rattle.map_model.specs.Tree.{whole}
use Rattle.cut_plans.proofs.InTurn.{InTurn}
use Rattle.cut_plans.proofs.intersecting.solids_in_turn.Given as goal

abbrev pub invariant-loop-id : goal.invariant-loop-id
invariant-loop-id l = InTurn (whole l.map) l.ids l.id-index l.solids.items l.base
