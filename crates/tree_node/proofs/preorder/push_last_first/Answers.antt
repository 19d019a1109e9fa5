use Rattle.std.proofs.Common.{◌-◌, ◌∷◌, [], ◌++◌, drop, ap, sym, ◌∙◌, arith, append_assoc}
use Rattle.tree_node.specs.Walk.{stacked}
use Rattle.tree_node.proofs.Walks.{stacked_more, one_level_more}
use Rattle.tree_node.proofs.preorder.push_last_first.Goals as goal

pub loop-left-preserved : goal.loop-left-preserved
loop-left-preserved c =
    let l = c.loop-left.left - 1 in
    let i = c.loop-left.invariant in
    let old = c.args.waiting.now.items in
    let levels = c.args.levels in
    let ids = c.args.ids.now in
    let x = c.index-ids-left.result in
    record {
      within = omega (arith, i.within);
      stack = c.in_ok-push.ensures.items ∙ ap (λ s. s ++ record { id = x; levels = levels } ∷ []) i.stack
          ∙ append_assoc old (stacked levels (drop c.loop-left.left ids)) (record { id = x; levels = levels } ∷ [])
          ∙ ap (λ s. old ++ s) (ap (λ j. stacked levels (drop j ids) ++ record { id = x; levels = levels } ∷ []) (one_level_more c.loop-left.left c.loop-left-test.true)
          ∙ sym (stacked_more levels ids l x (omega (arith, i.within, c.loop-left-test.true)) c.index-ids-left.is));
    }
