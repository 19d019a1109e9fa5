use Rattle.std.proofs.Common.{◌+◌, ◌-◌, refl, arith}
use Rattle.tree_node.proofs.Tables.{table_more}
use Rattle.tree_node.proofs.Walks.{one_level_more}
use Rattle.tree_node.proofs.copies.new_numbers.Goals as goal

pub loop-left-preserved : goal.loop-left-preserved
loop-left-preserved c =
    let i = c.loop-left.invariant in
    record {
      within = omega (arith, i.within);
      numbers = λ q. table_more c.loop-left.table c.insert.new.self c.args.ids.now c.args.first (c.loop-left.left - 1) c.loop-left.left c.number.result (c.args.first + (c.loop-left.left - 1)) c.index-ids-left.result q
          (one_level_more c.loop-left.left c.loop-left-test.true) (omega (arith, i.within, c.loop-left-test.true)) (c.in-Ok.ensures.updates.0 q) c.number.ensures c.index-ids-left.is refl (i.numbers q);
    }
