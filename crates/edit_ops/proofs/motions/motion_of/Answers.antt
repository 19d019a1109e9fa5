use Rattle.edit_ops.proofs.Shifts.{short_move, few_quarters, near_point, near_place, none_other}
use Rattle.edit_ops.proofs.WaysBack.{near_part}
use Rattle.edit_ops.proofs.motions.motion_of.Goals as goal

pub shifting-requires-in-Move : goal.shifting-requires-in-Move
shifting-requires-in-Move c = short_move c.args.c.now c.in-Move.shift c.in-Move.nodes c.in-Move.is c.requires.good

pub turning-requires : goal.turning-requires
turning-requires c = record {
  quarters = few_quarters c.args.c.now c.in-Turn.axis c.in-Turn.quarters c.in-Turn.about c.in-Turn.nodes c.in-Turn.is c.requires.good;
  about = near_point c.args.c.now c.in-Turn.axis c.in-Turn.quarters c.in-Turn.about c.in-Turn.nodes c.in-Turn.is c.requires.good;
}

pub flipping-requires : goal.flipping-requires
flipping-requires c = near_part c.in-Flip.at (near_place c.args.c.now c.in-Flip.axis c.in-Flip.at c.in-Flip.nodes c.in-Flip.is c.requires.good)

pub unreachable-requires : goal.unreachable-requires
unreachable-requires c = none_other c.args.c.now c.requires.own c.in_default.not-Copy c.in_default.not-Move c.in_default.not-Turn c.in_default.not-Flip
