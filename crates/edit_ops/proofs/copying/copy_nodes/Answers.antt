use Rattle.std.proofs.Common.{◌≡◌, ◌∙◌, take, ap, sym, subst}
use Rattle.map_model.specs.Tree.{whole}
use Rattle.map_model.specs.Edits.{swap, each_in_turn}
use Rattle.edit_ops.specs.Copying.{copied_by, IsNext}
use Rattle.edit_ops.proofs.CopySteps.{one_more, all_of, next_room}
use Rattle.edit_ops.proofs.copying.copy_nodes.Goals as goal

pub copy_node-requires-clause-same : goal.copy_node-requires-clause-same
copy_node-requires-clause-same c =
    let m = whole c.args.map.now in
    (subst (IsNext m c.args.ids.now c.id-item.result) (sym c.loop-id.invariant) (c.requires.next c.loop-id.id-index c.id-item.result c.loop-id-test.true c.id-item.is)).same

pub copy_node-requires-clause-there : goal.copy_node-requires-clause-there
copy_node-requires-clause-there c =
    let m = whole c.args.map.now in
    (subst (IsNext m c.args.ids.now c.id-item.result) (sym c.loop-id.invariant) (c.requires.next c.loop-id.id-index c.id-item.result c.loop-id-test.true c.id-item.is)).there

pub copy_node-requires-clause-can : goal.copy_node-requires-clause-can
copy_node-requires-clause-can c = λ q i.
    let m = whole c.args.map.now in
    c.requires.can q ((subst (IsNext m c.args.ids.now c.id-item.result) (sym c.loop-id.invariant) (c.requires.next c.loop-id.id-index c.id-item.result c.loop-id-test.true c.id-item.is)).listed q i)

pub copy_node-requires-clause-room : goal.copy_node-requires-clause-room
copy_node-requires-clause-room c =
    let m = whole c.args.map.now in
    next_room m c.args.ids.now c.id-item.result (swap m c.loop-id.change) c.requires.room
    (subst (IsNext m c.args.ids.now c.id-item.result) (sym c.loop-id.invariant) (c.requires.next c.loop-id.id-index c.id-item.result c.loop-id-test.true c.id-item.is))

pub loop-id-preserved : goal.loop-id-preserved
loop-id-preserved c =
    let m = whole c.args.map.now in
    let edit = copied_by c.args.lock c.args.motion.now in
    c.in_ok-copy_node.ensures ∙ ap (edit c.id-item.result) c.loop-id.invariant ∙ one_more edit c.args.ids.now c.loop-id.id-index c.id-item.result m c.loop-id-test.true c.id-item.is

pub returns : goal.returns
returns c =
    c.loop-id.invariant ∙ all_of (copied_by c.args.lock c.args.motion.now) c.args.ids.now c.loop-id.id-index (whole c.args.map.now) c.loop-id-test.false
