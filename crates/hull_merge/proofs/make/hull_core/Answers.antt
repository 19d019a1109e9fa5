use Rattle.hull_merge.proofs.Held.{held_by_hull}
use Rattle.hull_merge.proofs.make.hull_core.Goals as goal

pub returns-clause-law : goal.returns-clause-law
returns-clause-law c = held_by_hull c.args.points.now c.in_ok-hull.hull.facets c.in_ok-hull.hull.solid c.in_ok-hull.ensures.hull
