use Rattle.std.proofs.Common.{refl, sym, subst}
use Rattle.map_model.specs.Tree.{whole}
use Rattle.tree_node.specs.Held.{IsMap}
use Rattle.tree_node.proofs.Changes.{same_whole}
use Rattle.tree_node.proofs.map.Map.reserve.Goals as goal

pub invariant_of-self : goal.invariant_of-self
invariant_of-self c = subst IsMap (sym (same_whole (whole (record { slots = c.grow.new.slots.items; next = c.self.inside.next })) (whole (record { slots = c.self.inside.slots.items; next = c.self.inside.next })) refl c.grow.ensures.same)) c.self.invariant

pub invariant_of-self-2 : goal.invariant_of-self-2
invariant_of-self-2 c = subst IsMap (sym (same_whole (whole (record { slots = c.grow.new.slots.items; next = c.self.inside.next })) (whole (record { slots = c.self.inside.slots.items; next = c.self.inside.next })) refl c.grow.ensures.same)) c.self.invariant
