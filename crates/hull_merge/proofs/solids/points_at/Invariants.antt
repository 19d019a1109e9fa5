use Rattle.std.proofs.Common.{◌≡◌, take, map}
use Rattle.exact_geom.specs.Planes.{vector}
use Rattle.hull_merge.specs.Hulls.{distinct}
use Rattle.hull_merge.proofs.solids.points_at.Given as goal

abbrev pub invariant-loop-k : goal.invariant-loop-k
invariant-loop-k l = map vector l.points.items ≡ take l.k-index (distinct l.all)
