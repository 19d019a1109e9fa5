use Rattle.std.proofs.Common.{arith}
use Rattle.hull_merge.proofs.Held.{held_by_hull}
use Rattle.hull_merge.proofs.Placing.{few_places}
use Rattle.hull_merge.proofs.make.hull.Goals as goal

pub overflow_cast-result : goal.overflow_cast-result
overflow_cast-result c = let p = c.in_ok-places.ensures in let n = c.len-then-len-gt-MOST_POINTS.ensures in let f = few_places c.args.points.now c.in_ok-places.places.items p c.requires.few in omega arith

pub returns-clause-law : goal.returns-clause-law
returns-clause-law c = held_by_hull c.args.points.now c.in_ok-hull.hull.facets c.in_ok-hull.hull.solid c.in_ok-hull.ensures.hull
