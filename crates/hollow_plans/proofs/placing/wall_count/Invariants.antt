use Rattle.std.proofs.Common.{◌≡◌, ◌+◌, drop}
use Rattle.hollow_plans.specs.Walls.{wall_count}
use Rattle.hollow_plans.proofs.placing.wall_count.Given as goal

abbrev pub invariant-loop-one : goal.invariant-loop-one
invariant-loop-one l = l.count + wall_count (drop l.one-index l.hollowed) ≡ wall_count l.hollowed
