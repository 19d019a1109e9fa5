use Rattle.std.proofs.Common.{take}
use Rattle.part_rows.proofs.Rising.{Rise}
use Rattle.part_rows.proofs.cutting.tags_rise.Given as goal

abbrev pub invariant-loop-side : goal.invariant-loop-side
invariant-loop-side l = Rise l.least (take l.side-index l.sides)
