use Rattle.std.proofs.Common.{ap, sym, ◌∙◌, arith}
use Rattle.std.proofs.lemmas.Bool.{false≢true}
use Rattle.orient48.specs.Kept.{matrix_in}
use Rattle.orient48.proofs.Numbers.{no_number, one_more_misses}
use Rattle.orient48.proofs.orient.Orient.of_matrix.Goals as goal

pub loop-number-preserved : goal.loop-number-preserved
loop-number-preserved c =
    one_more_misses (matrix_in c.args.rows) c.loop-number.number c.loop-number.invariant
    (λ e. false≢true (sym c.if-is_same_matrix.false ∙ c.is_same_matrix.ensures.1 (ap matrix_in c.matrix.ensures.rows ∙ e)))

pub returns-clause-none : goal.returns-clause-none
returns-clause-none c = no_number (matrix_in c.args.rows) (λ k h. c.loop-number.invariant k (omega (arith, h, c.loop-number-test.false)))
