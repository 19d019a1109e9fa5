use Rattle.std.proofs.Common.{rules}
use Rattle.part_rows.proofs.Tagged.{none_numbered}
use Rattle.part_rows.proofs.sides.no_sides.Goals as goal

pub returns : goal.returns
returns g = record { numbered = none_numbered _ (search rules) }
