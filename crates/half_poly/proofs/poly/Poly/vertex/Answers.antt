use Rattle.std.proofs.Common.{◌∙◌, ap}
use Rattle.std.specs.List.{slice_get}
use Rattle.std.specs.Option.{option_and_then}
use Rattle.half_arena.specs.Slots.{contents}
use Rattle.half_poly.proofs.Reading.{vertex_of}
use Rattle.half_poly.proofs.poly.Poly.vertex.Goals as goal

pub returns : goal.returns
returns c = record {
  vertex = vertex_of c.self.invariant c.args.self.now c.self.view_is c.args.k c.vertex_at.result
      (c.vertex_at.ensures ∙ ap (λ ids. option_and_then (λ id. contents c.self.inside.shape.vertices id.0) (slice_get ids c.args.k)) c.deref.ensures.value);
}
