use Rattle.map_model.specs.Edits.{delete}
use Rattle.tree_node.specs.Held.{changed}
use Rattle.tree_ops.proofs.Turning.{turned_one, turned_all}
use Rattle.cut_plans.proofs.intersect_plans.delete_all.Goals as goal

pub loop-id-preserved : goal.loop-id-preserved
loop-id-preserved c =
    turned_one delete c.args.ids.now c.loop-id.id-index c.id-item.result (changed c.args.map.now c.args.change.now) (changed c.args.map.now c.loop-id.change) (changed c.args.map.now c.delete.new.self)
    c.loop-id-test.true c.id-item.is c.loop-id.invariant c.in_ok-delete.ensures

pub returns : goal.returns
returns c = turned_all delete c.args.ids.now c.loop-id.id-index (changed c.args.map.now c.args.change.now) (changed c.args.map.now c.loop-id.change) c.loop-id-test.false c.loop-id.invariant
