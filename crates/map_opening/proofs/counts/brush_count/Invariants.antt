use Rattle.std.proofs.Common.{◌≡◌}
use Rattle.map_model.specs.Tree.{whole, is_brush}
use Rattle.map_opening.proofs.Tallies.{counted_to}
use Rattle.map_opening.proofs.counts.brush_count.Given as goal

abbrev pub invariant-loop-number : goal.invariant-loop-number
invariant-loop-number l = l.count ≡ counted_to (is_brush (whole l.map)) l.number
