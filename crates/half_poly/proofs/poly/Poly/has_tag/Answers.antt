use Rattle.std.proofs.Common.{◌∙◌, sym, ap, subst}
use Rattle.algebra.specs.Members.{◌∈◌}
use Rattle.half_arena.specs.Slots.{contents}
use Rattle.half_poly.specs.Shapes.{sides_of}
use Rattle.half_poly.specs.Tags.{tag_place, tags_of}
use Rattle.half_poly.proofs.Tagging.{not_had, had}
use Rattle.half_poly.proofs.poly.Poly.has_tag.Goals as goal

pub face_with-requires : goal.face_with-requires
face_with-requires c = record { listed = λ id m. c.self.invariant.stands.listed id (subst (λ o. id ∈ o) c.deref.ensures.value m) }

pub returns-clause-tag : goal.returns-clause-tag
returns-clause-tag c = had c.args.self.now c.args.tag c.face_with.result c.is_some.result (sym (c.face_with.ensures ∙ ap (λ o. tag_place (tags_of (sides_of (contents c.self.inside.shape.faces) o)) c.args.tag) c.deref.ensures.value ∙ ap (λ s. tag_place (tags_of s) c.args.tag) c.self.view_is)) c.is_some.ensures

pub returns-clause-new : goal.returns-clause-new
returns-clause-new c = not_had c.args.self.now c.args.tag c.face_with.result c.is_some.result (sym (c.face_with.ensures ∙ ap (λ o. tag_place (tags_of (sides_of (contents c.self.inside.shape.faces) o)) c.args.tag) c.deref.ensures.value ∙ ap (λ s. tag_place (tags_of s) c.args.tag) c.self.view_is)) c.is_some.ensures
