use Rattle.std.proofs.Common.{◌∙◌, sym, ap, subst, map}
use Rattle.std.specs.List.{slice_get}
use Rattle.std.specs.Option.{option_and_then}
use Rattle.algebra.specs.Members.{◌∈◌}
use Rattle.half_arena.specs.Slots.{contents}
use Rattle.solid_laws.specs.Names.{AreVertices}
use Rattle.half_poly.specs.Shapes.{sides_of, solid_of}
use Rattle.half_poly.specs.Readings.{points_of}
use Rattle.half_poly.specs.Tags.{tag_place, tags_of}
use Rattle.half_poly.proofs.Reading.{loop_of}
use Rattle.half_poly.proofs.Tagging.{tagged_loop, untagged_loop}
use Rattle.half_poly.proofs.poly.Poly.loop_vertex.Goals as goal

pub face_with-requires : goal.face_with-requires
face_with-requires c = record { listed = λ id m. c.self.invariant.stands.listed id (subst (λ o. id ∈ o) c.deref.ensures.value m) }

pub returns-in-Some : goal.returns-in-Some
returns-in-Some c = record {
  vertex = tagged_loop c.args.self.now c.args.tag c.in-Some.face c.args.k c.number_at.result ((sym (c.face_with.ensures ∙ ap (λ o. tag_place (tags_of (sides_of (contents c.self.inside.shape.faces) o)) c.args.tag) c.deref.ensures.value ∙ ap (λ s. tag_place (tags_of s) c.args.tag) c.self.view_is)) ∙ c.in-Some.is)
      (loop_of c.self.invariant c.args.self.now c.self.view_is c.in-Some.face c.args.k c.number_at.result
      (c.number_at.ensures ∙ ap (λ loops. option_and_then (λ numbers. slice_get numbers c.args.k) (slice_get (map (λ l. l.items) loops) c.in-Some.face)) c.deref-in-Some.ensures.value));
}

pub returns-in-None : goal.returns-in-None
returns-in-None c = record {
  vertex = untagged_loop c.args.self.now c.args.tag c.args.k (points_of c.self.inside.shape c.self.inside.named.items) ((sym (c.face_with.ensures ∙ ap (λ o. tag_place (tags_of (sides_of (contents c.self.inside.shape.faces) o)) c.args.tag) c.deref.ensures.value ∙ ap (λ s. tag_place (tags_of s) c.args.tag) c.self.view_is)) ∙ c.in-None.is)
      (subst (λ sides. AreVertices (solid_of sides) (points_of c.self.inside.shape c.self.inside.named.items)) c.self.view_is c.self.invariant.are_named.are_vertices);
}
