use Rattle.map_model.specs.Tree.{whole}
use Rattle.map_model.specs.Edits.{swap}
use Rattle.map_model.specs.Own.{ungroup}
use Rattle.tree_ops.proofs.Turning.{turned_one, turned_all}
use Rattle.tree_ops.proofs.removal.ungroup_all.Goals as goal

pub loop-id-preserved : goal.loop-id-preserved
loop-id-preserved c =
    let m = whole c.args.map.now in
    turned_one ungroup c.args.ids.now c.loop-id.id-index c.id-item.result (swap m c.args.change.now) (swap m c.loop-id.change) (swap m c.ungroup.new.change)
    c.loop-id-test.true c.id-item.is c.loop-id.invariant c.in_ok-ungroup.ensures

pub returns : goal.returns
returns c =
    let m = whole c.args.map.now in
    turned_all ungroup c.args.ids.now c.loop-id.id-index (swap m c.args.change.now) (swap m c.loop-id.change) c.loop-id-test.false c.loop-id.invariant
