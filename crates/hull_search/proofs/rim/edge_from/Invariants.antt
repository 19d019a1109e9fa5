use Rattle.hull_search.specs.Slopes.{face, ramp, spots}
use Rattle.hull_search.specs.Places.{IsWay, IsEdgeEnd}
use Rattle.hull_search.proofs.rim.edge_from.Given as goal

pub record Kept (l : goal.Live-loop-k) : Type 0 where
  pub border : IsWay (spots l.points) (face l.f) l.a l.way.to (ramp l.way.border)
  pub end : IsEdgeEnd (spots l.points) (face l.f) l.on l.k l.a l.way.to

abbrev pub invariant-loop-k : goal.invariant-loop-k
invariant-loop-k l = Kept l
