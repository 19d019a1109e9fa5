use Rattle.std.proofs.Common.{◌∙◌}
use Rattle.edit_ops.specs.Moving.{carried}
use Rattle.brush_plans.proofs.Lists.{is_member, mapped_more, mapped_all}
use Rattle.edit_ops.proofs.faces.carried_faces.Goals as goal

pub carried_face-requires-clause-in_range : goal.carried_face-requires-clause-in_range
carried_face-requires-clause-in_range c = c.requires.in_range c.face-item.result (is_member c.args.faces.now c.loop-face.face-index c.face-item.result c.loop-face-test.true c.face-item.is)

pub carried_face-requires-clause-offsets : goal.carried_face-requires-clause-offsets
carried_face-requires-clause-offsets c = c.requires.offsets c.face-item.result (is_member c.args.faces.now c.loop-face.face-index c.face-item.result c.loop-face-test.true c.face-item.is)

pub loop-face-preserved : goal.loop-face-preserved
loop-face-preserved c =
    mapped_more (carried c.args.lock c.args.motion.now) c.args.faces.now c.loop-face.moved.items c.push.new.self.items c.loop-face.face-index c.face-item.result c.in_ok-carried_face.field-0
    c.loop-face-test.true c.face-item.is c.loop-face.invariant c.in_ok-carried_face.ensures c.in_ok-push.ensures.items

pub returns : goal.returns
returns c = c.of.ensures ∙ mapped_all (carried c.args.lock c.args.motion.now) c.args.faces.now c.loop-face.moved.items c.loop-face.face-index c.loop-face-test.false c.loop-face.invariant
