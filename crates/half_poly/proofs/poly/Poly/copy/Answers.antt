use Rattle.std.proofs.Common.{◌∙◌, map, ap}
use Rattle.half_poly.proofs.Copying.{copied_poly, copied_sides}
use Rattle.half_poly.proofs.poly.Poly.copy.Goals as goal

pub invariant_of-result : goal.invariant_of-result
invariant_of-result c = copied_poly c.self.inside.shape c.in_ok-copy_shape.field-0 c.self.inside.named.items c.in_ok-from_slice.field-0.items (map (λ l. l.items) c.self.inside.loops.items) (map (λ l. l.items) c.in_ok-copy_loops.field-0.items)
    c.in_ok-copy_shape.ensures (c.in_ok-from_slice.ensures.items ∙ c.deref.ensures.value) (c.in_ok-copy_loops.ensures ∙ ap (map (λ l. l.items)) c.deref-2.ensures.value) c.self.invariant

pub returns : goal.returns
returns c = record { equal = copied_sides c.self.inside.shape c.in_ok-copy_shape.field-0 c.in_ok-copy_shape.ensures ∙ c.self.view_is }
