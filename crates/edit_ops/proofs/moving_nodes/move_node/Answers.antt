use Rattle.std.proofs.Common.{ap, sym, subst, ◌∙◌}
use Rattle.std.specs.Prelude.{unwrap_or}
use Rattle.map_model.specs.Tree.{whole}
use Rattle.map_model.specs.Edits.{swap}
use Rattle.map_model.specs.Own.{moved_node}
use Rattle.edit_ops.specs.Moving.{CanMoveNode}
use Rattle.edit_ops.proofs.Renewals.{gone_stays, node_stays, node_goes, unlinked_node}
use Rattle.edit_ops.proofs.moving_nodes.move_node.Goals as goal

pub moved-requires-clause-unlinked : goal.moved-requires-clause-unlinked
moved-requires-clause-unlinked c = unlinked_node (whole c.args.map.now) c.is_map.ensures c.args.id c.in-Some.node.now c.in-Some.ensures

pub moved-requires-clause-can : goal.moved-requires-clause-can
moved-requires-clause-can c = subst (CanMoveNode c.args.lock c.args.motion.now) (sym c.in-Some.ensures) c.requires.can

pub returns-in_default : goal.returns-in_default
returns-in_default c =
    let m = whole c.args.map.now in
    gone_stays (moved_node c.args.lock c.args.motion.now) m (swap m c.args.change.now) c.args.id c.requires.same c.in_default.ensures

pub returns-in_default-2 : goal.returns-in_default-2
returns-in_default-2 c =
    let m = whole c.args.map.now in
    node_stays (moved_node c.args.lock c.args.motion.now) m (swap m c.args.change.now) c.args.id c.in-Some.node.now c.requires.same c.in-Some.ensures
    (sym (ap (λ o. unwrap_or o c.in-Some.node.now) c.in_default-2.is) ∙ c.in_ok-new.ensures)

pub returns : goal.returns
returns c =
    let m = whole c.args.map.now in
    node_goes (moved_node c.args.lock c.args.motion.now) m (swap m c.args.change.now) c.args.id c.in-Some.node.now c.in-Some-2.new c.requires.same c.in-Some.ensures
    (sym (ap (λ o. unwrap_or o c.in-Some.node.now) c.in-Some-2.is) ∙ c.in_ok-new.ensures) (swap m c.put.new.self) (c.in_ok-put.ensures.ok m)
