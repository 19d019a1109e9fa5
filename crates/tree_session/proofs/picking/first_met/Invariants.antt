use Rattle.std.proofs.Common.{◌≤◌}
use Rattle.exact_geom.specs.Planes.{vector}
use Rattle.map_model.specs.Tree.{whole}
use Rattle.tree_session.specs.Picks.{IsNearest}
use Rattle.tree_session.proofs.picking.first_met.Given as goal

abbrev pub invariant-loop-node : goal.invariant-loop-node
invariant-loop-node l = IsNearest (whole l.fn.map) (vector l.fn.from) (vector l.fn.to) l.node l.best × (l.node ≤ l.fn.map.next)
