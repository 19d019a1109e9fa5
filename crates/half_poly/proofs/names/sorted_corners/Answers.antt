use Rattle.std.proofs.Common.{length}
use Rattle.half_arena.specs.Slots.{contents}
use Rattle.half_poly.proofs.Cornering.{corners_moved, in_order}
use Rattle.half_poly.proofs.names.sorted_corners.Goals as goal

pub returns-clause-corners : goal.returns-clause-corners
returns-clause-corners c = corners_moved (contents c.args.vertices.now) c.args.names.now (length c.args.names.now) c.in_ok-corners.corners.items c.sort.new.self.items c.in_ok-sort.ensures.permutation c.in_ok-corners.ensures.corners

pub returns-clause-order : goal.returns-clause-order
returns-clause-order c = in_order c.sort.new.self.items c.in_ok-sort.ensures.sorted
