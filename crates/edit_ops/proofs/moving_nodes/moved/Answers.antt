use Rattle.std.proofs.Common.{subst, Some}
use Rattle.edit_ops.specs.Moving.{CanMoveNode}
use Rattle.edit_ops.proofs.Renewals.{stays}
use Rattle.edit_ops.proofs.moving_nodes.moved.Goals as goal

pub moved_body-requires : goal.moved_body-requires
moved_body-requires c = record { can = subst (λ x. CanMoveNode c.args.lock c.args.motion.now (Some x)) c.in-Brush.is c.requires.can }

pub returns-in_default : goal.returns-in_default
returns-in_default c = stays c.args.lock c.args.motion.now c.args.node.now c.requires.unlinked c.in_default.not-Entity c.in_default.not-Brush
