use Rattle.std.proofs.Common.{◌≡◌, take, map}
use Rattle.hull_merge.specs.Gathered.{whole_of}
use Rattle.hull_merge.proofs.vertices.whole_points.Given as goal

abbrev pub invariant-loop-vertex : goal.invariant-loop-vertex
invariant-loop-vertex l = map whole_of l.points.items ≡ take l.vertex-index l.vertices
