use Rattle.map_model.specs.Tree.{whole, above}
use Rattle.map_model.specs.Edits.{each_in_turn, swap}
use Rattle.map_model.specs.Apply.{drop_emptied}
use Rattle.tree_ops.proofs.Turning.{Turning}
use Rattle.tree_ops.proofs.pruning.prune.Given as goal

abbrev pub invariant-loop-id : goal.invariant-loop-id
invariant-loop-id l =
    let m = whole l.map in
    Turning (λ n. each_in_turn (drop_emptied m) (above m n)) l.named l.id-index (swap m l.fn.change) (swap m l.change)
