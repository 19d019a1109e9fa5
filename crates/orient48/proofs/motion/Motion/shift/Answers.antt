use Rattle.std.proofs.Common.{ap, ◌∙◌}
use Rattle.exact_geom.specs.Planes.{parts}
use Rattle.orient48.proofs.Parts.{three_parts}
use Rattle.orient48.proofs.motion.Motion.shift.Goals as goal

pub returns-clause-shift : goal.returns-clause-shift
returns-clause-shift c = three_parts c.self.inside.shift c.self.invariant.three ∙ ap (λ m. parts m.shift) c.self.view_is
