use Rattle.std.proofs.Common.{◌≡◌, take}
use Rattle.map_nodes.proofs.same_faces.same_faces.Given as goal

abbrev pub invariant-loop-k : goal.invariant-loop-k
invariant-loop-k l = take l.k l.a ≡ take l.k l.b
