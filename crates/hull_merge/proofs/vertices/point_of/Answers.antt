use Rattle.hull_merge.proofs.Gathering.{some_whole}
use Rattle.hull_merge.proofs.vertices.point_of.Goals as goal

pub returns-clause-some : goal.returns-clause-some
returns-clause-some c = some_whole c.whole.result c.args.vertex.now c.whole.ensures.some c.whole.ensures.point
