use Rattle.part_rows.specs.Numbered.{AreNumbered}
use Rattle.part_rows.proofs.sides.sides.Given as goal

abbrev pub invariant-loop-line : goal.invariant-loop-line
invariant-loop-line l =
    goal.iterator-loop-line.can_next l.line-iterator ×
    goal.iterator-loop-line.is_finite l.line-iterator ×
    AreNumbered l.sides.items
