use Rattle.edit_ops.proofs.Shifts.{none_other}
use Rattle.edit_ops.proofs.motions.nodes_of.Goals as goal

pub unreachable-requires : goal.unreachable-requires
unreachable-requires c = none_other c.args.c.now c.requires.own c.in_default.not-Copy c.in_default.not-Move c.in_default.not-Turn c.in_default.not-Flip
