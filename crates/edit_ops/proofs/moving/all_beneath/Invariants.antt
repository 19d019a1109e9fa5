use Rattle.map_model.specs.Tree.{whole, preorder}
use Rattle.map_model.specs.Edits.{swap}
use Rattle.brush_plans.proofs.Lists.{Joined}
use Rattle.edit_ops.proofs.moving.all_beneath.Given as goal

abbrev pub invariant-loop-id : goal.invariant-loop-id
invariant-loop-id l = Joined (preorder (swap (whole l.map) l.change)) l.ids l.all.items l.id-index
