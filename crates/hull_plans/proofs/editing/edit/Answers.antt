use Rattle.hull_plans.proofs.WhichCommand.{none_other}
use Rattle.hull_plans.proofs.editing.edit.Goals as goal

pub unreachable-requires : goal.unreachable-requires
unreachable-requires c = none_other c.args.c.now c.requires.own c.in_default.not-Hull c.in_default.not-Merge
