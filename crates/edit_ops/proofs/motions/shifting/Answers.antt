use Rattle.std.proofs.Common.{◌∙◌}
use Rattle.orient48.specs.Kept.{vector_in}
use Rattle.edit_ops.proofs.motions.shifting.Goals as goal

pub returns : goal.returns
returns c = c.kept.ensures ∙ (λ i. record { matrix = c.identity.ensures i; shift = vector_in c.args.shift })
