use Rattle.std.proofs.Common.{refl}
use Rattle.half_arena.specs.Slots.{contents}
use Rattle.half_poly.proofs.MovedShape.{range_of, leaves, new_tags, moved_to}
use Rattle.half_poly.proofs.Ordered.{order_distinct}
use Rattle.half_poly.proofs.poly.Poly.moved.Goals as goal

pub moved_shape-requires-clause-once : goal.moved_shape-requires-clause-once
moved_shape-requires-clause-once c = let order = c.self.inside.shape.order.items in order_distinct (contents c.self.inside.shape.faces) order order refl c.self.invariant.tags

pub moved_shape-requires-clause-in_range : goal.moved_shape-requires-clause-in_range
moved_shape-requires-clause-in_range c = range_of c.args.motion.now c.is_flip.ensures.signed c.self.invariant c.args.self.now c.self.view_is c.requires.in_range

pub returns-in_default-clause-moved : goal.returns-in_default-clause-moved
returns-in_default-clause-moved c = leaves c.args.motion.now c.is_flip.ensures.signed c.self.invariant c.args.self.now c.self.view_is c.in_ok-shape.field-0 c.in_default.is c.in_ok-shape.ensures.moved

pub of_shape-requires-clause-tags : goal.of_shape-requires-clause-tags
of_shape-requires-clause-tags c = new_tags c.args.motion.now c.is_flip.ensures.signed c.self.invariant c.args.self.now c.self.view_is c.in_ok-shape.field-0 c.in-Some.shape c.in-Some.is c.in_ok-shape.ensures.moved

pub returns-clause-moved : goal.returns-clause-moved
returns-clause-moved c = moved_to c.args.motion.now c.is_flip.ensures.signed c.self.invariant c.args.self.now c.self.view_is c.in_ok-shape.field-0 c.in-Some.shape c.in-Some.is c.in_ok-shape.ensures.moved c.in_ok-of_shape.field-0 c.in_ok-of_shape.ensures
