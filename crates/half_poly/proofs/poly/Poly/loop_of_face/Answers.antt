use Rattle.std.proofs.Common.{◌∙◌, ap, map}
use Rattle.std.specs.List.{slice_get}
use Rattle.std.specs.Option.{option_and_then}
use Rattle.half_poly.proofs.Reading.{loop_of}
use Rattle.half_poly.proofs.poly.Poly.loop_of_face.Goals as goal

pub returns : goal.returns
returns c = record {
  vertex = loop_of c.self.invariant c.args.self.now c.self.view_is c.args.face c.args.k c.number_at.result
      (c.number_at.ensures ∙ ap (λ loops. option_and_then (λ numbers. slice_get numbers c.args.k) (slice_get (map (λ l. l.items) loops) c.args.face)) c.deref.ensures.value);
}
