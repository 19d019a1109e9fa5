use Rattle.half_arena.specs.Slots.{contents}
use Rattle.half_poly.proofs.Tagging.{tag_found, no_tag, tag_passed}
use Rattle.half_poly.proofs.tags.face_with.Goals as goal

pub returns-then-has_tag : goal.returns-then-has_tag
returns-then-has_tag c = tag_found (contents c.args.faces.now) c.args.order.now c.args.tag c.loop-number.number c.requires.listed c.loop-number-test.true c.loop-number.invariant c.has_tag.result c.has_tag.ensures c.if-has_tag.true

pub loop-number-preserved : goal.loop-number-preserved
loop-number-preserved c = tag_passed (contents c.args.faces.now) c.args.order.now c.args.tag c.loop-number.number c.requires.listed c.loop-number-test.true c.loop-number.invariant c.has_tag.result c.has_tag.ensures c.if-has_tag.false

pub returns : goal.returns
returns c = no_tag (contents c.args.faces.now) c.args.order.now c.args.tag c.loop-number.number c.loop-number-test.false c.loop-number.invariant
