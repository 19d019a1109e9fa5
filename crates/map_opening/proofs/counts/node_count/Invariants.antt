use Rattle.std.proofs.Common.{◌≡◌, ◌==◌, ◌&&◌, not, is_some}
use Rattle.map_model.specs.Tree.{whole, at}
use Rattle.map_opening.proofs.Tallies.{counted_to}
use Rattle.map_opening.proofs.counts.node_count.Given as goal

abbrev pub invariant-loop-number : goal.invariant-loop-number
invariant-loop-number l = l.count ≡ counted_to (λ n. is_some (at (whole l.map) n) && not (n == 0)) l.number
