use Rattle.std.proofs.Common.{refl}
use Rattle.map_model.specs.Tree.{whole}
use Rattle.obj_export.specs.Adding.{obj_at}
use Rattle.obj_export.proofs.Walking.{one_node_more, all_added}
use Rattle.obj_export.proofs.brushes.add_nodes.Goals as goal

pub loop-id-init : goal.loop-id-init
loop-id-init c = record { counted = c.requires.counted; rest = λ b right. refl }

pub loop-id-preserved : goal.loop-id-preserved
loop-id-preserved c =
    one_node_more (whole c.args.map.now) c.args.ids.now (obj_at c.args.text.now.items c.args.counts.now) (obj_at c.loop-id.text.items c.loop-id.counts)
    (obj_at c.add_node.new.text.items c.add_node.new.counts) c.loop-id.id-index c.id-item.result c.loop-id-test.true c.id-item.is c.loop-id.invariant
    c.in_ok-add_node.ensures.added c.in_ok-add_node.ensures.counted

pub returns : goal.returns
returns c = record {
  added = all_added (whole c.args.map.now) c.args.ids.now (obj_at c.args.text.now.items c.args.counts.now) (obj_at c.loop-id.text.items c.loop-id.counts)
      c.loop-id.id-index c.loop-id-test.false c.loop-id.invariant;
}
