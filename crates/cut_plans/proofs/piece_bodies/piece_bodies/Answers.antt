use Rattle.std.proofs.Common.{◌∙◌}
use Rattle.cut_plans.specs.Told.{faces_of}
use Rattle.brush_plans.proofs.Lists.{is_member, mapped_more, mapped_all}
use Rattle.cut_plans.proofs.piece_bodies.piece_bodies.Goals as goal

pub body_of_solid-requires : goal.body_of_solid-requires
body_of_solid-requires c = c.requires c.solid-item.result (is_member c.args.solids.now c.loop-solid.solid-index c.solid-item.result c.loop-solid-test.true c.solid-item.is)

pub loop-solid-preserved : goal.loop-solid-preserved
loop-solid-preserved c =
    mapped_more (faces_of 128 c.args.old.now c.args.new.now) c.args.solids.now c.loop-solid.bodies.items c.add.new.bodies.items c.loop-solid.solid-index c.solid-item.result c.in_ok-body.body
    c.loop-solid-test.true c.solid-item.is c.loop-solid.invariant c.in_ok-body.ensures c.in_ok-add.ensures

pub returns : goal.returns
returns c = c.of.ensures ∙ mapped_all (faces_of 128 c.args.old.now c.args.new.now) c.args.solids.now c.loop-solid.bodies.items c.loop-solid.solid-index c.loop-solid-test.false c.loop-solid.invariant
