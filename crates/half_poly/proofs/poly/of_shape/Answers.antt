use Rattle.half_arena.specs.Slots.{contents}
use Rattle.half_poly.proofs.Ordered.{order_distinct}
use Rattle.half_poly.proofs.poly.of_shape.Goals as goal

pub named-requires-clause-once : goal.named-requires-clause-once
named-requires-clause-once c = order_distinct (contents c.args.shape.faces) c.args.shape.order.items c.deref.result.now c.deref.ensures.value c.requires.tags
