use Rattle.std.proofs.Common.{◌≡◌, ◌+◌, ◌^◌, ◌<◌, ◌≤◌, ◌++◌, length}
use Rattle.fixed_num.specs.Shortest.{places}
use Rattle.fixed_num.proofs.write.push_places.Given as goal

abbrev pub invariant-places : goal.invariant-places
invariant-places l =
    (l.buf ++ places l.left l.rest ≡ l.initial.buf ++ places l.fn.decimals l.fn.rest)
    × (l.rest < 10 ^ l.left) × (l.left ≤ 12) × (length l.buf + l.left ≤ 24)

abbrev pub decreases-places : goal.decreases-places
decreases-places l = l.left
