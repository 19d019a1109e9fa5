use Rattle.exact_geom.specs.Planes.{vector}
use Rattle.ray_pick.proofs.Entering.{Entering}
use Rattle.ray_pick.proofs.entry.entry.Given as goal

abbrev pub invariant-loop-side : goal.invariant-loop-side
invariant-loop-side l = Entering l.sides (vector l.from) (vector l.to) l.side-index l.entry
