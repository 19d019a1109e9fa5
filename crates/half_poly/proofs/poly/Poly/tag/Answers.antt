use Rattle.std.proofs.Common.{◌∙◌, ap}
use Rattle.std.specs.List.{slice_get}
use Rattle.std.specs.Option.{option_and_then}
use Rattle.half_arena.specs.Slots.{contents}
use Rattle.half_poly.proofs.Reading.{tag_of}
use Rattle.half_poly.proofs.poly.Poly.tag.Goals as goal

pub returns : goal.returns
returns c = record {
  tag = c.tag_of.ensures ∙ tag_of c.self.invariant c.args.self.now c.self.view_is c.args.face c.face_at.result
      (c.face_at.ensures ∙ ap (λ ids. option_and_then (λ id. contents c.self.inside.shape.faces id.0) (slice_get ids c.args.face)) c.deref.ensures.value);
}
