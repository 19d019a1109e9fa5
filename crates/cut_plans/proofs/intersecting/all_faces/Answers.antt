use Rattle.std.proofs.Common.{◌∙◌}
use Rattle.map_model.specs.Tree.{whole}
use Rattle.brush_plans.proofs.Lists.{is_member}
use Rattle.cut_plans.proofs.InTurn.{all_more, all_done}
use Rattle.cut_plans.proofs.intersecting.all_faces.Goals as goal

pub body_at-body-requires : goal.body_at-body-requires
body_at-body-requires c = record { brush = c.requires.brushes c.id-item.result (is_member c.args.ids.now c.loop-id.id-index c.id-item.result c.loop-id-test.true c.id-item.is) }

pub loop-id-preserved : goal.loop-id-preserved
loop-id-preserved c =
    all_more (whole c.args.map.now) c.args.ids.now c.loop-id.id-index c.id-item.result c.loop-id-test.true c.id-item.is c.loop-id.all.items c.push_faces.new.list.items c.faces.result.now
    c.loop-id.invariant (c.faces.ensures.faces ∙ c.body_at-body.ensures) c.in_ok-push_faces.ensures

pub returns : goal.returns
returns c = all_done (whole c.args.map.now) c.args.ids.now c.loop-id.id-index c.loop-id.all.items c.loop-id-test.false c.loop-id.invariant
