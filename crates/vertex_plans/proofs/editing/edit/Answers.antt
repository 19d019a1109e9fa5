use Rattle.vertex_plans.proofs.WhichCommand.{none_other}
use Rattle.vertex_plans.proofs.editing.edit.Goals as goal

pub unreachable-requires : goal.unreachable-requires
unreachable-requires c = none_other c.args.c.now c.requires.own c.in_default.not-Vertex c.in_default.not-Snap
