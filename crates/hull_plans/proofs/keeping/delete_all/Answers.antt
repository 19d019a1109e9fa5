use Rattle.map_model.specs.Tree.{whole}
use Rattle.map_model.specs.Edits.{swap, delete}
use Rattle.tree_ops.proofs.Turning.{turned_one, turned_all}
use Rattle.hull_plans.proofs.keeping.delete_all.Goals as goal

pub loop-id-preserved : goal.loop-id-preserved
loop-id-preserved c =
    let m = whole c.args.map.now in
    turned_one delete c.args.ids.now c.loop-id.id-index c.id-item.result (swap m c.args.change.now) (swap m c.loop-id.change) (swap m c.delete.new.self)
    c.loop-id-test.true c.id-item.is c.loop-id.invariant c.in_ok-delete.ensures

pub returns : goal.returns
returns c =
    let m = whole c.args.map.now in
    turned_all delete c.args.ids.now c.loop-id.id-index (swap m c.args.change.now) (swap m c.loop-id.change) c.loop-id-test.false c.loop-id.invariant
