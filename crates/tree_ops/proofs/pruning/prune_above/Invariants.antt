use Rattle.map_model.specs.Tree.{whole}
use Rattle.map_model.specs.Edits.{swap}
use Rattle.map_model.specs.Apply.{drop_emptied}
use Rattle.tree_ops.proofs.Climbing.{Climbing}
use Rattle.tree_ops.proofs.pruning.prune_above.Given as goal

abbrev pub invariant-loop-step : goal.invariant-loop-step
invariant-loop-step l =
    let m = whole l.map in
    Climbing (drop_emptied m) m l.fn.id l.step l.below (swap m l.fn.change) (swap m l.change)
