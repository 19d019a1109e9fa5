use Rattle.std.proofs.Common.{Option, None, sym, ◌∙◌, arith, length, ◌≤◌}
use Rattle.solid_brush.specs.Sides.{half_spaces}
use Rattle.map_model.specs.Loops.{loop}
use Rattle.loop_laws.proofs.Places.{count_is, number_is, loop_short}
use Rattle.obj_export.proofs.Turned.{further, ends_here}
use Rattle.obj_export.proofs.corners.loop_length.Goals as goal

pub loop-k-preserved : goal.loop-k-preserved
loop-k-preserved c V f vertices e =
    further (loop V f) c.loop-k.k c.loop_vertex.result c.is_none.result
    (number_is (half_spaces c.args.solid.now) c.args.face c.loop-k.k c.loop_vertex.result V f vertices e c.loop_vertex.ensures.vertex)
    c.is_none.ensures c.if-is_none.false

pub returns-then-is_none : goal.returns-then-is_none
returns-then-is_none c V f vertices e =
    ends_here (loop V f) c.loop-k.k c.loop_vertex.result c.is_none.result
    (number_is (half_spaces c.args.solid.now) c.args.face c.loop-k.k c.loop_vertex.result V f vertices e c.loop_vertex.ensures.vertex)
    c.is_none.ensures c.if-is_none.true (c.loop-k.invariant V f vertices e)

pub returns : goal.returns
returns c V f vertices e =
    let count = count_is (half_spaces c.args.solid.now) c.vertex_count-k-end.result V c.vertex_count-k-end.ensures.count vertices in
    let last_count = count_is (half_spaces c.args.solid.now) c.vertex_count.result V c.vertex_count.ensures.count vertices in
    let short = loop_short V f in let last = c.loop-k-test.false in let some = c.loop-k.invariant V f vertices e in
    omega arith
