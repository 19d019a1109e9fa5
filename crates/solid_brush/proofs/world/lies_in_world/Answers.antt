use Rattle.half_poly.specs.Shapes.{solid_of}
use Rattle.solid_brush.proofs.Faces.{vertex_there, leaves, stays, all_stay}
use Rattle.solid_brush.proofs.world.lies_in_world.Goals as goal

pub unreachable-requires : goal.unreachable-requires
unreachable-requires c = vertex_there (solid_of c.args.poly.now) c.vertex_count-k-end.result c.loop-k.k c.vertex.result c.vertex_count-k-end.ensures.count c.loop-k-test.true c.vertex.ensures.vertex c.in_default.is

pub returns-then-not-in_world : goal.returns-then-not-in_world
returns-then-not-in_world c = leaves (solid_of c.args.poly.now) c.loop-k.k c.vertex.result c.in-Some.vertex c.in_world.result c.vertex.ensures.vertex c.in-Some.is c.in_world.ensures c.if-not-in_world.true

pub loop-k-preserved : goal.loop-k-preserved
loop-k-preserved c = stays (solid_of c.args.poly.now) c.loop-k.k c.vertex.result c.in-Some.vertex c.in_world.result c.vertex.ensures.vertex c.in-Some.is c.in_world.ensures c.if-not-in_world.false c.loop-k.invariant

pub returns : goal.returns
returns c = all_stay (solid_of c.args.poly.now) c.vertex_count-k-end.result c.loop-k.k c.vertex_count-k-end.ensures.count c.loop-k-test.false c.loop-k.invariant
