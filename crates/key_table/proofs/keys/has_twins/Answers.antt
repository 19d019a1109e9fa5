use Rattle.key_table.proofs.Twins.{no_twin_more, no_twins, refuted}
use Rattle.key_table.proofs.keys.has_twins.Goals as goal

pub loop-place-preserved : goal.loop-place-preserved
loop-place-preserved c =
    no_twin_more _ _ c.loop-place.invariant (refuted _ c.has_earlier_twin.ensures c.if-has_earlier_twin.false)

pub returns : goal.returns
returns c = (λ said. absurd (cc), λ twins. absurd (no_twins _ _ c.loop-place.invariant c.loop-place-test.false twins))
