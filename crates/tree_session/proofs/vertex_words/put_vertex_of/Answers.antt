use Rattle.solid_brush.specs.Sides.{half_spaces}
use Rattle.tree_session.proofs.BrushWords.{no_vertex, one_vertex}
use Rattle.tree_session.proofs.vertex_words.put_vertex_of.Goals as goal

pub returns-in-None : goal.returns-in-None
returns-in-None c V vertices = no_vertex (half_spaces c.args.solid.now) c.args.number V c.args.listing.now c.put.new.self c.in-None.ensures.vertex vertices c.in_ok-put.ensures

pub returns-in-Some : goal.returns-in-Some
returns-in-Some c =
    one_vertex c.put_vertex.result (half_spaces c.args.solid.now) c.args.number c.in-Some.vertex c.args.listing.now c.put.new.self c.put_vertex.new.listing
    c.in-Some.ensures.vertex c.in_ok-put.ensures c.put_vertex.ensures
