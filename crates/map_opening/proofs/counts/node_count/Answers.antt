use Rattle.std.proofs.Common.{ℕ, Bool, ◌==◌, ◌&&◌, not, is_some, arith, sym, ◌∙◌}
use Rattle.map_model.specs.Tree.{whole, at}
use Rattle.map_opening.proofs.Tallies.{counted, not_counted, few_counted, all_counted}
use Rattle.map_opening.proofs.counts.node_count.Goals as goal
use Rattle.map_opening.proofs.counts.node_count.Goals.{then-is_counted, else-is_counted}

pub overflow_add-count : goal.overflow_add-count
overflow_add-count c =
    let few = few_counted (λ n. is_some (at (whole c.args.map.now) n) && not (n == 0)) c.loop-number.number c.loop-number.count c.loop-number.invariant in
    omega (arith, few, c.loop-number-test.true)

pub loop-number-preserved : goal.loop-number-preserved
loop-number-preserved c =
    let p : ℕ → Bool = λ n. is_some (at (whole c.args.map.now) n) && not (n == 0) in
    elim c.if-is_counted.branch [
      | then-is_counted w ↦ w.count-is ∙ counted p c.loop-number.number c.loop-number.count c.loop-number.invariant (sym c.is_counted.ensures ∙ w.if-is_counted.true)
      | else-is_counted w ↦ w.count-is ∙ not_counted p c.loop-number.number c.loop-number.count c.loop-number.invariant (sym c.is_counted.ensures ∙ w.if-is_counted.false)
    ]

pub returns : goal.returns
returns c =
    all_counted (λ n. is_some (at (whole c.args.map.now) n)) (λ n. not (n == 0)) c.loop-number.number c.next-number-end.result c.args.map.now.next c.loop-number.count
    c.loop-number.invariant c.loop-number.auto.number-end c.loop-number-test.false c.next-number-end.ensures
