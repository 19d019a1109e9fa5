use Rattle.std.proofs.Common.{get_or}
use Rattle.algebra.proofs.Members.{member_at}
use Rattle.hull_search.proofs.Reading.{each_before}
use Rattle.hull_merge.specs.Hulls.{zero_point}
use Rattle.vertex_edit.specs.Places.{GoesInRange}
use Rattle.vertex_edit.proofs.picks.first_far.Goals as goal

pub moved-requires-clause-world : goal.moved-requires-clause-world
moved-requires-clause-world c = c.requires.world (get_or c.args.picks.now c.loop-k.k zero_point) (member_at c.args.picks.now c.loop-k.k zero_point c.loop-k-test.true)

pub returns-clause-none : goal.returns-clause-none
returns-clause-none c = λ n. each_before (GoesInRange c.args.shift.now) zero_point c.args.picks.now c.loop-k.k c.loop-k.invariant c.loop-k-test.false
