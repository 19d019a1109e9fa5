use Rattle.std.proofs.Common.{ap, ◌∙◌}
use Rattle.hull_merge.specs.Hulls.{distinct}
use Rattle.hull_merge.proofs.Gathering.{are_gathered}
use Rattle.hull_merge.proofs.solids.gather.Goals as goal

pub returns-clause-gathered : goal.returns-clause-gathered
returns-clause-gathered c = are_gathered c.args.list.now c.in_ok-all.all.items c.in_ok-points.points.items c.in_ok-all.ensures.all c.in_ok-all.ensures.few (c.in_ok-points.ensures.points ∙ ap distinct c.deref-2.ensures.value)
