use Rattle.std.proofs.Common.{◌∙◌}
use Rattle.half_poly.proofs.names.count_faces.Goals as goal

pub loop-place-preserved : goal.loop-place-preserved
loop-place-preserved c = (c.count_face.ensures.length ∙ c.loop-place.invariant.0, c.count_face.ensures.names c.args.count c.requires.within c.loop-place.invariant.1)
