use Rattle.std.proofs.Common.{◌++◌, take_all, ap, ◌∙◌, None, Some, arith, length, ◌≤◌}
use Rattle.std.specs.Prelude.{flat_map}
use Rattle.solid_brush.specs.Sides.{half_spaces}
use Rattle.loop_laws.proofs.Places.{count_is, vertex_is}
use Rattle.loop_laws.proofs.Lists.{take_past, one_more_text}
use Rattle.obj_export.specs.Text.{vertex_line}
use Rattle.obj_export.proofs.Pieces.{in_world}
use Rattle.obj_export.proofs.vertices.put_vertices.Goals as goal

pub put_vertex-requires : goal.put_vertex-requires
put_vertex-requires c =
    record { in_world = in_world (half_spaces c.args.solid.now) c.loop-k.k c.in-Some.vertex c.sides-sides.ensures.solid.brush c.in-Some.ensures.vertex }

pub returns-in-None : goal.returns-in-None
returns-in-None c V vertices =
    c.loop-k.invariant V vertices
    ∙ ap (λ vs. c.args.text.now.items ++ flat_map vertex_line vs)
    (take_past V c.loop-k.k (vertex_is (half_spaces c.args.solid.now) c.loop-k.k None V c.in-None.ensures.vertex vertices))

pub loop-k-preserved : goal.loop-k-preserved
loop-k-preserved c V vertices =
    one_more_text vertex_line V c.loop-k.k c.in-Some.vertex c.args.text.now.items c.loop-k.text.items c.put_vertex.new.text.items
    (vertex_is (half_spaces c.args.solid.now) c.loop-k.k (Some c.in-Some.vertex) V c.in-Some.ensures.vertex vertices)
    (c.loop-k.invariant V vertices) c.in_ok-put_vertex-in-Some.ensures

pub returns : goal.returns
returns c V vertices =
    let count = count_is (half_spaces c.args.solid.now) c.vertex_count-k-end.result V c.vertex_count-k-end.ensures.count vertices in
    let last = c.loop-k-test.false in
    let all : length V ≤ c.loop-k.k = omega arith in
    c.loop-k.invariant V vertices ∙ ap (λ vs. c.args.text.now.items ++ flat_map vertex_line vs) (take_all c.loop-k.k V all)
