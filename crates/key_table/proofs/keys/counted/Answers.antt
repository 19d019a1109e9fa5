use Rattle.std.proofs.Common.{◌∙◌, arith}
use Rattle.std.proofs.lemmas.List.{length-set}
use Rattle.key_table.proofs.Order.{counts_more}
use Rattle.key_table.proofs.keys.counted.Goals as goal

pub loop-place-preserved : goal.loop-place-preserved
loop-place-preserved g c = (
  length-set _ _ _ ∙ c.loop-place.invariant.0,
  counts_more _ _ (omega arith) c.loop-place.invariant.1,
)

pub returns : goal.returns
returns g c = λ k within. c.loop-place.invariant.1 k (omega arith)
