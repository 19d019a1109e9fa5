use Rattle.map_model.specs.Tree.{whole}
use Rattle.map_model.specs.Edits.{swap}
use Rattle.map_model.specs.Own.{moved_node}
use Rattle.brush_plans.proofs.Lists.{is_member}
use Rattle.edit_ops.proofs.Renewals.{renewing, is_same, renewed_one, renewed_all}
use Rattle.edit_ops.proofs.moving_nodes.move_nodes.Goals as goal

pub loop-id-init : goal.loop-id-init
loop-id-init c = let m = whole c.args.map.now in renewing (moved_node c.args.lock c.args.motion.now) m (swap m c.args.change.now) c.args.ids.now c.requires.begins c.requires.once

pub move_node-requires-clause-same : goal.move_node-requires-clause-same
move_node-requires-clause-same c =
    let m = whole c.args.map.now in
    is_same (moved_node c.args.lock c.args.motion.now) m c.args.ids.now c.loop-id.id-index c.id-item.result (swap m c.loop-id.change) c.loop-id-test.true c.id-item.is c.loop-id.invariant

pub move_node-requires-clause-can : goal.move_node-requires-clause-can
move_node-requires-clause-can c = c.requires.can c.id-item.result (is_member c.args.ids.now c.loop-id.id-index c.id-item.result c.loop-id-test.true c.id-item.is)

pub loop-id-preserved : goal.loop-id-preserved
loop-id-preserved c =
    let m = whole c.args.map.now in
    renewed_one (moved_node c.args.lock c.args.motion.now) m c.args.ids.now c.loop-id.id-index c.id-item.result (swap m c.loop-id.change) c.loop-id-test.true c.id-item.is c.loop-id.invariant
    (swap m c.move_node.new.change) c.in_ok-move_node.ensures

pub returns : goal.returns
returns c =
    let m = whole c.args.map.now in
    renewed_all (moved_node c.args.lock c.args.motion.now) m c.args.ids.now c.loop-id.id-index (swap m c.loop-id.change) c.loop-id-test.false c.loop-id.invariant
