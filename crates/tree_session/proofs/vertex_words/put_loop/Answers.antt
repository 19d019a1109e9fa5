use Rattle.std.proofs.Common.{◌++◌, map, take_all, ap, ◌∙◌, None, Some, arith, length, ◌≤◌}
use Rattle.solid_brush.specs.Sides.{half_spaces}
use Rattle.map_model.specs.Loops.{loop}
use Rattle.map_model.specs.Listings.{vertex_word}
use Rattle.tree_session.specs.Brushes.{spaced}
use Rattle.loop_laws.proofs.Lists.{take_past}
use Rattle.loop_laws.proofs.Places.{count_is, number_is, loop_short}
use Rattle.tree_session.proofs.BrushWords.{one_vertex_more}
use Rattle.tree_session.proofs.vertex_words.put_loop.Goals as goal

pub returns-in-None : goal.returns-in-None
returns-in-None c V f vertices e =
    c.loop-k.invariant V f vertices e
    ∙ ap (λ ns. c.args.listing.now ++ spaced (map (vertex_word V) ns))
    (take_past (loop V f) c.loop-k.k (number_is (half_spaces c.args.solid.now) c.args.face c.loop-k.k None V f vertices e c.in-None.ensures.vertex))

pub loop-k-preserved : goal.loop-k-preserved
loop-k-preserved c V f vertices e =
    one_vertex_more V (loop V f) c.loop-k.k c.in-Some.number c.args.listing.now c.loop-k.listing c.put_vertex_of.new.listing
    (number_is (half_spaces c.args.solid.now) c.args.face c.loop-k.k (Some c.in-Some.number) V f vertices e c.in-Some.ensures.vertex)
    (c.loop-k.invariant V f vertices e) (c.in_ok-put_vertex_of-in-Some.ensures V vertices)

pub returns : goal.returns
returns c V f vertices e =
    let count = count_is (half_spaces c.args.solid.now) c.vertex_count-k-end.result V c.vertex_count-k-end.ensures.count vertices in
    let short = loop_short V f in let last = c.loop-k-test.false in
    let all : length (loop V f) ≤ c.loop-k.k = omega arith in
    c.loop-k.invariant V f vertices e ∙ ap (λ ns. c.args.listing.now ++ spaced (map (vertex_word V) ns)) (take_all c.loop-k.k (loop V f) all)
