use Rattle.std.proofs.Common.{◌≡◌, ℕ, ◌<◌, true}
use Rattle.hull_search.specs.Slopes.{spots}
use Rattle.hull_search.specs.Places.{point, number, same_place}
use Rattle.hull_search.proofs.rim.other_on.Given as goal

abbrev pub invariant-loop-k : goal.invariant-loop-k
invariant-loop-k l = (j : ℕ) → j < l.k → same_place (point (spots l.points) l.a) (point (spots l.points) (number l.on j)) ≡ true
