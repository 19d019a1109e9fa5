use Rattle.std.proofs.Common.{ap, subst, ◌∙◌, ◌<◌}
use Rattle.orient48.specs.Motions.{product, transposed}
use Rattle.orient48.specs.Orients.{matrix_of}
use Rattle.orient48.proofs.Matrices.{turn_undone}
use Rattle.orient48.proofs.Numbers.{number_turn}
use Rattle.orient48.proofs.orient.Orient.inverse.Goals as goal

pub returns-clause-undone : goal.returns-clause-undone
returns-clause-undone c =
    let m = matrix_of c.args.self in
    let below = subst (λ n. n < 48) c.self.view_is c.self.invariant in
    ap (λ k. product k m) (c.inverse.ensures.matrix ∙ ap (λ n. transposed (matrix_of n)) c.self.view_is) ∙ turn_undone m (number_turn c.args.self below)
