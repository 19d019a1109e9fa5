use Rattle.touch_index.proofs.Joins.{some_side}
use Rattle.touch_index.proofs.overlapping.count_step.Goals as goal

pub bounds-sides-0 : goal.bounds-sides-0
bounds-sides-0 g c = some_side c.args.a.now c.sides.result.now c.sides.ensures.sides c.sides.ensures.solid

pub bounds-sides-0-2 : goal.bounds-sides-0-2
bounds-sides-0-2 g c = some_side c.args.a.now c.sides.result.now c.sides.ensures.sides c.sides.ensures.solid

pub returns : goal.returns
returns g c = c.meet-none.ensures.steps
