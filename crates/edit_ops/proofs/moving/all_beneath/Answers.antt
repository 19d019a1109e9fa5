use Rattle.std.proofs.Common.{◌++◌, ap, ◌∙◌}
use Rattle.map_model.specs.Tree.{whole, preorder}
use Rattle.map_model.specs.Edits.{swap}
use Rattle.brush_plans.proofs.Lists.{joined_more, joined_all}
use Rattle.edit_ops.proofs.moving.all_beneath.Goals as goal

pub loop-id-preserved : goal.loop-id-preserved
loop-id-preserved c =
    joined_more (preorder (swap (whole c.args.map.now) c.args.change.now)) c.args.ids.now c.loop-id.all.items c.extend_from_slice.new.self.items c.loop-id.id-index c.id-item.result c.loop-id-test.true c.id-item.is c.loop-id.invariant
    (c.in_ok-extend_from_slice.ensures.items ∙ ap (λ l. c.loop-id.all.items ++ l) (c.deref.ensures.value ∙ c.in_ok-beneath.ensures))

pub returns : goal.returns
returns c = joined_all (preorder (swap (whole c.args.map.now) c.args.change.now)) c.args.ids.now c.loop-id.all.items c.loop-id.id-index c.loop-id-test.false c.loop-id.invariant
