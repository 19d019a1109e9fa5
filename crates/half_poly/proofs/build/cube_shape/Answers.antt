use Rattle.std.proofs.Common.{map, sym, ◌∙◌, subst, []}
use Rattle.std.proofs.lemmas.List.{length-map}
use Rattle.half_arena.specs.declared.ids.EdgeId.{EdgeId}
use Rattle.half_arena.specs.declared.ids.FaceId.{FaceId}
use Rattle.half_arena.specs.declared.ids.VertId.{VertId}
use Rattle.half_arena.specs.Slots.{contents}
use Rattle.half_poly.specs.Puts.{AreLive}
use Rattle.half_poly.specs.Walls.{unbegun_walls, cube_edge, cube_wall}
use Rattle.half_poly.proofs.Putting.{live_of_put}
use Rattle.half_poly.proofs.Cubing.{cube_shape, cube_sides_are, written_of_put, none_in, edges_at, walls_at}
use Rattle.half_poly.proofs.build.cube_shape.Goals as goal

pub link_edges-requires : goal.link_edges-requires
link_edges-requires c = record {
  live = subst (λ ids. AreLive (map (λ (i : EdgeId). i.0) ids) (contents c.put_all.new.arena) 24) (sym c.deref-3.ensures.value)
      (live_of_put (contents c.new-edges.result) _ (contents c.put_all.new.arena) (map (λ (i : EdgeId). i.0) c.in_ok-ids.ids.items) 24 (none_in c.new-edges.result c.new-edges.ensures.slots) c.in_ok-ids.ensures (cube_edge [] [] [] 0));
}

pub link_walls-requires : goal.link_walls-requires
link_walls-requires c = record {
  live = subst (λ ids. AreLive (map (λ (i : FaceId). i.0) ids) (contents c.add_walls.new.faces) 6) (sym c.deref-5.ensures.value)
      (live_of_put (contents c.new-faces.result) unbegun_walls (contents c.add_walls.new.faces) (map (λ (i : FaceId). i.0) c.in_ok-walls.walls.items) 6 (none_in c.new-faces.result c.new-faces.ensures.slots) c.in_ok-walls.ensures (cube_wall [] 0));
}

pub returns-clause-shape : goal.returns-clause-shape
returns-clause-shape c =
    let vs = c.in_ok-corners.corners.items in let fs = c.in_ok-walls.walls.items in let es = c.in_ok-ids.ids.items in
    cube_shape (contents c.add_corners.new.vertices) (contents c.link_edges.new.edges) (contents c.link_walls.new.faces) vs fs es
    (written_of_put (contents c.new-vertices.result) (contents c.add_corners.new.vertices) (map (λ (i : VertId). i.0) vs) (none_in c.new-vertices.result c.new-vertices.ensures.slots) c.in_ok-corners.ensures)
    (edges_at vs c.deref.result.now fs c.deref-2.result.now es c.deref-3.result.now (contents c.link_edges.new.edges) c.deref.ensures.value c.deref-2.ensures.value c.deref-3.ensures.value c.link_edges.ensures)
    (walls_at fs c.deref-5.result.now es c.deref-4.result.now (contents c.link_walls.new.faces) c.deref-5.ensures.value c.deref-4.ensures.value c.link_walls.ensures)
    c.in_ok-corners.ensures.long c.in_ok-ids.ensures.long (sym (length-map fs (λ (i : FaceId). i.0)) ∙ c.in_ok-walls.ensures.long)

pub returns-clause-sides : goal.returns-clause-sides
returns-clause-sides c =
    let vs = c.in_ok-corners.corners.items in let fs = c.in_ok-walls.walls.items in let es = c.in_ok-ids.ids.items in
    cube_sides_are (contents c.add_corners.new.vertices) (contents c.link_edges.new.edges) (contents c.link_walls.new.faces) vs fs es
    (written_of_put (contents c.new-vertices.result) (contents c.add_corners.new.vertices) (map (λ (i : VertId). i.0) vs) (none_in c.new-vertices.result c.new-vertices.ensures.slots) c.in_ok-corners.ensures)
    (edges_at vs c.deref.result.now fs c.deref-2.result.now es c.deref-3.result.now (contents c.link_edges.new.edges) c.deref.ensures.value c.deref-2.ensures.value c.deref-3.ensures.value c.link_edges.ensures)
    (walls_at fs c.deref-5.result.now es c.deref-4.result.now (contents c.link_walls.new.faces) c.deref-5.ensures.value c.deref-4.ensures.value c.link_walls.ensures)
    c.in_ok-corners.ensures.long c.in_ok-ids.ensures.long (sym (length-map fs (λ (i : FaceId). i.0)) ∙ c.in_ok-walls.ensures.long)
