use Rattle.cut_plans.specs.Told.{face_of}
use Rattle.brush_plans.proofs.Lists.{is_member, mapped_more, mapped_all}
use Rattle.cut_plans.proofs.told.faces_of.Goals as goal

pub face_of-requires : goal.face_of-requires
face_of-requires c = c.requires c.side-item.result (is_member c.args.sides.now c.loop-side.side-index c.side-item.result c.loop-side-test.true c.side-item.is)

pub loop-side-preserved : goal.loop-side-preserved
loop-side-preserved c =
    mapped_more (face_of c.args.base c.args.old.now c.args.new.now) c.args.sides.now c.loop-side.faces.items c.push.new.self.items c.loop-side.side-index c.side-item.result c.in_ok-face_of.field-0
    c.loop-side-test.true c.side-item.is c.loop-side.invariant c.in_ok-face_of.ensures c.in_ok-push.ensures.items

pub returns : goal.returns
returns c = mapped_all (face_of c.args.base c.args.old.now c.args.new.now) c.args.sides.now c.loop-side.faces.items c.loop-side.side-index c.loop-side-test.false c.loop-side.invariant
