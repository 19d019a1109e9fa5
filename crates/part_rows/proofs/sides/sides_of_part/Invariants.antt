use Rattle.part_rows.specs.Numbered.{AreNumbered}
use Rattle.part_rows.proofs.sides.sides_of_part.Given as goal

abbrev pub invariant-loop-spelled : goal.invariant-loop-spelled
invariant-loop-spelled l =
    goal.iterator-loop-spelled.can_next l.spelled-iterator ×
    goal.iterator-loop-spelled.is_finite l.spelled-iterator ×
    AreNumbered l.sides.items
