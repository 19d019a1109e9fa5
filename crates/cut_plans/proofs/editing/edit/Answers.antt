use Rattle.cut_plans.proofs.WhichCommand.{none_other}
use Rattle.cut_plans.proofs.editing.edit.Goals as goal

pub unreachable-requires : goal.unreachable-requires
unreachable-requires c = none_other c.args.c.now c.requires.own c.in_default.not-Clip c.in_default.not-Subtract c.in_default.not-Intersect
