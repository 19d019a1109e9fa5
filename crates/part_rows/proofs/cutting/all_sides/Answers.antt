use Rattle.std.proofs.Common.{rules, ap, ◌∙◌, ◌++◌}
use Rattle.part_rows.proofs.Joined.{one_more_joined}
use Rattle.part_rows.proofs.cutting.all_sides.Goals as goal

pub loop-solid-preserved : goal.loop-solid-preserved
loop-solid-preserved c =
    one_more_joined c.args.list.now c.loop-solid.solid-index c.solid-item.result c.loop-solid.sides.items c.extend_from_slice.new.self.items
    c.loop-solid-test.true c.solid-item.is c.loop-solid.invariant (c.in_ok-extend_from_slice.ensures.items ∙ ap (λ s. c.loop-solid.sides.items ++ s) c.sides.ensures.sides)
