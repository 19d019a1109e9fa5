use Rattle.map_model.specs.Tree.{whole}
use Rattle.map_model.specs.Below.{Below, IsRight}
use Rattle.cut_plans.proofs.PartedLists.{Parting}
use Rattle.cut_plans.proofs.subtracting.part_all.Given as goal

abbrev pub invariant-loop-id : goal.invariant-loop-id
invariant-loop-id l = (b : Below) → IsRight b → Parting (whole l.map) l.cutter.body l.ids l.id-index l.parted.items b
