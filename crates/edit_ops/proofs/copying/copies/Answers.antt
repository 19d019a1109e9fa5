use Rattle.std.proofs.Common.{ap, sym, subst, ◌∙◌}
use Rattle.std.specs.Prelude.{is_some}
use Rattle.std.proofs.lemmas.Bool.{false≢true}
use Rattle.map_model.specs.Tree.{whole, at}
use Rattle.map_model.specs.Own.{copied_node}
use Rattle.brush_plans.proofs.Lists.{is_member}
use Rattle.edit_ops.specs.Moving.{CanMoveNode}
use Rattle.edit_ops.proofs.Renewals.{unlinked_node}
use Rattle.edit_ops.proofs.CopySteps.{copied_more, copied_all}
use Rattle.edit_ops.proofs.copying.copies.Goals as goal

pub unreachable-requires : goal.unreachable-requires
unreachable-requires c = false≢true (ap is_some c.in_default.ensures ∙ c.requires.there c.id-item.result (is_member c.args.ids.now c.loop-id.id-index c.id-item.result c.loop-id-test.true c.id-item.is))

pub copied-requires-clause-unlinked : goal.copied-requires-clause-unlinked
copied-requires-clause-unlinked c = unlinked_node (whole c.args.map.now) c.is_map.ensures c.id-item.result c.in-Some.node.now c.in-Some.ensures

pub copied-requires-clause-can : goal.copied-requires-clause-can
copied-requires-clause-can c =
    subst (CanMoveNode c.args.lock c.args.motion.now) (sym c.in-Some.ensures) (c.requires.can c.id-item.result (is_member c.args.ids.now c.loop-id.id-index c.id-item.result c.loop-id-test.true c.id-item.is))

pub loop-id-preserved : goal.loop-id-preserved
loop-id-preserved c =
    copied_more (copied_node c.args.lock c.args.motion.now) (at (whole c.args.map.now)) c.args.ids.now c.loop-id.nodes.items c.push.new.self.items c.loop-id.id-index c.id-item.result c.in-Some.node.now c.in_ok-copied.field-0
    c.loop-id-test.true c.id-item.is c.in-Some.ensures c.in_ok-copied.ensures c.loop-id.invariant c.in_ok-push.ensures.items

pub returns-clause-nodes : goal.returns-clause-nodes
returns-clause-nodes c = copied_all (copied_node c.args.lock c.args.motion.now) (at (whole c.args.map.now)) c.args.ids.now c.loop-id.nodes.items c.loop-id.id-index c.loop-id-test.false c.loop-id.invariant
