use Rattle.std.proofs.Common.{arith}
use Rattle.key_table.proofs.Order.{indexed_from}
use Rattle.key_table.proofs.Twins.{refuted}
use Rattle.key_table.proofs.keys.Keys.of.Goals as goal

pub invariant_of-result : goal.invariant_of-result
invariant_of-result g c =
    indexed_from _ _ _ (refuted _ c.has_twins.ensures c.if-has_twins.false) c.counted-order.ensures (omega arith)
    c.sort_by_word.ensures.places c.sort_by_word.ensures.rises
