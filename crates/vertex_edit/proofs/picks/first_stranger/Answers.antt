use Rattle.std.proofs.Common.{get_or, below_more}
use Rattle.algebra.specs.Members.{◌∈◌}
use Rattle.hull_search.proofs.Reading.{refuted, each_before}
use Rattle.hull_merge.specs.Hulls.{zero_point}
use Rattle.hull_merge.specs.Gathered.{whole_of}
use Rattle.vertex_edit.proofs.picks.first_stranger.Goals as goal

pub returns-then-not-is_vertex-clause-some : goal.returns-then-not-is_vertex-clause-some
returns-then-not-is_vertex-clause-some c = record { within = c.loop-k-test.true; here = refuted c.is_vertex.ensures c.if-not-is_vertex.true; before = c.loop-k.invariant }

pub loop-k-preserved : goal.loop-k-preserved
loop-k-preserved c = below_more (λ j. whole_of (get_or c.args.picks.now j zero_point) ∈ c.args.vertices.now) c.loop-k.k c.loop-k.invariant (c.is_vertex.ensures.0 c.if-not-is_vertex.false)

pub returns-clause-none : goal.returns-clause-none
returns-clause-none c = λ n. each_before (λ q. whole_of q ∈ c.args.vertices.now) zero_point c.args.picks.now c.loop-k.k c.loop-k.invariant c.loop-k-test.false
