use Rattle.map_model.specs.Tree.{whole, above}
use Rattle.map_model.specs.Edits.{each_in_turn, swap}
use Rattle.map_model.specs.Apply.{drop_emptied}
use Rattle.tree_ops.proofs.Turning.{turned_one, turned_all}
use Rattle.tree_ops.proofs.pruning.prune.Goals as goal

pub loop-id-preserved : goal.loop-id-preserved
loop-id-preserved c =
    let m = whole c.args.map.now in
    turned_one (λ n. each_in_turn (drop_emptied m) (above m n)) c.args.named.now c.loop-id.id-index c.id-item.result (swap m c.args.change.now) (swap m c.loop-id.change) (swap m c.prune_above.new.change)
    c.loop-id-test.true c.id-item.is c.loop-id.invariant c.in_ok-prune_above.ensures

pub returns : goal.returns
returns c =
    let m = whole c.args.map.now in
    turned_all (λ n. each_in_turn (drop_emptied m) (above m n)) c.args.named.now c.loop-id.id-index (swap m c.args.change.now) (swap m c.loop-id.change) c.loop-id-test.false c.loop-id.invariant
