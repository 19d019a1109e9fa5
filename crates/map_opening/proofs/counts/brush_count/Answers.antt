use Rattle.std.proofs.Common.{◌≡◌, arith, ◌+◌, ap, sym, ◌∙◌}
use Rattle.map_model.specs.Tree.{whole, is_brush}
use Rattle.map_opening.proofs.Tallies.{counted_to, counted, not_counted, few_counted}
use Rattle.map_opening.proofs.counts.brush_count.Goals as goal
use Rattle.map_opening.proofs.counts.brush_count.Goals.{then-is_brush, else-is_brush}

pub overflow_add-count : goal.overflow_add-count
overflow_add-count c =
    let few = few_counted (is_brush (whole c.args.map.now)) c.loop-number.number c.loop-number.count c.loop-number.invariant in
    omega (arith, few, c.loop-number-test.true)

pub loop-number-preserved : goal.loop-number-preserved
loop-number-preserved c =
    let p = is_brush (whole c.args.map.now) in
    elim c.if-is_brush.branch [
      | then-is_brush w ↦ w.count-is ∙ counted p c.loop-number.number c.loop-number.count c.loop-number.invariant (sym c.is_brush.ensures ∙ w.if-is_brush.true)
      | else-is_brush w ↦ w.count-is ∙ not_counted p c.loop-number.number c.loop-number.count c.loop-number.invariant (sym c.is_brush.ensures ∙ w.if-is_brush.false)
    ]
