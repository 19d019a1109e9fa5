use Rattle.std.proofs.Common.{get_or}
use Rattle.algebra.proofs.Members.{member_at}
use Rattle.hull_merge.specs.Hulls.{zero_point}
use Rattle.vertex_edit.proofs.moving.places_of.Goals as goal

pub place_of-requires-clause-world : goal.place_of-requires-clause-world
place_of-requires-clause-world c = c.requires.world (get_or c.args.points.now c.loop-point.point-index zero_point) (member_at c.args.points.now c.loop-point.point-index zero_point c.loop-point-test.true)
