use Rattle.std.proofs.Common.{◌∙◌}
use Rattle.edit_ops.proofs.CopyOutcomes.{is_moving}
use Rattle.edit_ops.proofs.copying.plan_copy.Goals as goal

pub motion_of-motion-requires : goal.motion_of-motion-requires
motion_of-motion-requires c = record { own = is_moving c.args.c.now c.requires.own; good = c.requires.good }

pub nodes_of-requires : goal.nodes_of-requires
nodes_of-requires c = record { own = is_moving c.args.c.now c.requires.own }

pub plan_copies-requires : goal.plan_copies-requires
plan_copies-requires c = record {
  own = c.requires.own;
  good = c.requires.good;
  motion = c.motion_of-motion.ensures;
  turns = c.is_rigid.ensures;
  these = c.deref.ensures.value ∙ c.in_ok-ids.ensures ∙ c.nodes_of.ensures;
}
