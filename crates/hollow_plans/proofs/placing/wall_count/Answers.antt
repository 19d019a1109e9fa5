use Rattle.hollow_plans.proofs.PuttingWalls.{counted_all}
use Rattle.hollow_plans.proofs.placing.wall_count.Goals as goal

pub returns : goal.returns
returns c = counted_all c.args.hollowed.now c.loop-one.one-index c.loop-one.count c.loop-one-test.false c.loop-one.invariant
