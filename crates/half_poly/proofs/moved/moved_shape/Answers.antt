use Rattle.std.proofs.Common.{refl, subst, ◌∙◌}
use Rattle.half_arena.specs.Slots.{contents}
use Rattle.half_poly.specs.Shapes.{solid_of, sides_of}
use Rattle.half_poly.specs.Moving.{AreSlotNames}
use Rattle.half_poly.proofs.MovedShape.{range_still, some_out, all_in}
use Rattle.half_poly.proofs.moved.moved_shape.Goals as goal

pub move_faces-requires : goal.move_faces-requires
move_faces-requires c = record { in_range = range_still c.args.motion.now c.args.shape.now.faces c.in_ok-faces.faces c.in_ok-faces.ensures c.requires.in_range }

pub returns-then-not-move_vertices : goal.returns-then-not-move_vertices
returns-then-not-move_vertices c =
    let old = c.args.shape.now in
    let named = subst (λ l. AreSlotNames (contents old.vertices) (solid_of (sides_of (contents old.faces) l)) c.in_ok-names.names.items) c.deref.ensures.value c.in_ok-names.ensures in record {
      moved = some_out c.args.motion.now c.is_flip.ensures.signed old c.requires.shape c.in_ok-vertices.vertices c.move_vertices.new.vertices c.in_ok-faces.faces c.move_faces.new.faces c.in_ok-vertices.ensures c.in_ok-faces.ensures c.move_faces.ensures
          c.in_ok-names.names.items c.deref-3.result.now c.deref-4.result.now c.move_vertices.result c.deref-3.ensures.value (c.deref-4.ensures.value ∙ c.in_ok-order.ensures.items ∙ c.deref-2.ensures.value) named c.move_vertices.ensures.moved
          c.if-not-move_vertices.true;
    }

pub returns : goal.returns
returns c =
    let old = c.args.shape.now in
    let named = subst (λ l. AreSlotNames (contents old.vertices) (solid_of (sides_of (contents old.faces) l)) c.in_ok-names.names.items) c.deref.ensures.value c.in_ok-names.ensures in
    let order = c.in_ok-order.ensures.items ∙ c.deref-2.ensures.value in record {
      moved = all_in c.args.motion.now c.is_flip.ensures.signed old c.requires.shape c.in_ok-vertices.vertices c.move_vertices.new.vertices c.in_ok-faces.faces c.move_faces.new.faces c.in_ok-vertices.ensures c.in_ok-faces.ensures c.move_faces.ensures
          c.in_ok-names.names.items c.deref-3.result.now c.deref-4.result.now c.move_vertices.result c.deref-3.ensures.value (c.deref-4.ensures.value ∙ order) named c.move_vertices.ensures.moved
          (record { vertices = c.move_vertices.new.vertices; edges = c.in_ok-edges.edges; faces = c.move_faces.new.faces; order = c.in_ok-order.order }) c.is_flip.result c.is_flip.ensures.flip c.in_ok-edges.ensures
          c.if-not-move_vertices.false refl refl order;
    }
