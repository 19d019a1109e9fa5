use Rattle.std.proofs.Common.{◌+◌, sym, subst, arith}
use Rattle.solid_brush.specs.Sides.{half_spaces}
use Rattle.hull_merge.proofs.Counting.{few_vertices}
use Rattle.hull_merge.proofs.Reading.{Read, read_none, read_more, reads_on, read_all, in_the_world}
use Rattle.hull_merge.proofs.vertices.vertices_of.Goals as goal

pub loop-k-init : goal.loop-k-init
loop-k-init c = subst (Read (half_spaces c.args.solid.now) 0) (sym c.new-list.ensures.items) (read_none (half_spaces c.args.solid.now) c.vertex_count-k-end.result c.vertex_count-k-end.ensures.count)

pub unreachable-requires : goal.unreachable-requires
unreachable-requires c =
    reads_on (half_spaces c.args.solid.now) c.loop-k.k c.vertex_count-k-end.result c.vertex.result c.vertex_count-k-end.ensures.count c.vertex.ensures.vertex c.loop-k-test.true c.in_default.is

pub loop-k-preserved : goal.loop-k-preserved
loop-k-preserved c = subst (Read (half_spaces c.args.solid.now) (c.loop-k.k + 1)) (sym c.in_ok-push.ensures.items)
    (read_more (half_spaces c.args.solid.now) c.loop-k.k c.loop-k.list.items _ c.vertex.result c.loop-k.invariant c.vertex.ensures.vertex c.in-Some.is)

pub returns-clause-vertices : goal.returns-clause-vertices
returns-clause-vertices c = read_all (half_spaces c.args.solid.now) c.loop-k.k c.vertex_count-k-end.result c.loop-k.list.items c.vertex_count-k-end.ensures.count c.loop-k.invariant (let f = c.loop-k-test.false in omega arith)

pub returns-clause-world : goal.returns-clause-world
returns-clause-world c = in_the_world c.args.solid.now c.loop-k.list.items c.sides-sides.ensures.solid (returns-clause-vertices c)

pub returns-clause-few : goal.returns-clause-few
returns-clause-few c = few_vertices (half_spaces c.args.solid.now) c.loop-k.list.items c.sides-sides.ensures.solid.brush.most (returns-clause-vertices c)
