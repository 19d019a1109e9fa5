use Rattle.std.proofs.Common.{ap, ◌∙◌}
use Rattle.algebra.specs.Space.{minus}
use Rattle.orient48.specs.Kept.{vector_in}
use Rattle.orient48.specs.Motions.{turned}
use Rattle.edit_ops.proofs.motions.turning.Goals as goal

pub returns : goal.returns
returns c =
    let about = vector_in c.args.about in
    let shift = c.way_back.ensures.back ∙ ap (λ m. minus about (turned m about)) c.turn-orient.ensures in
    c.kept.ensures ∙ (λ i. record { matrix = c.turn-orient.ensures i; shift = shift i })
