use Rattle.std.proofs.Common.{sym, ◌∙◌}
use Rattle.tree_session.proofs.WhichWords.{edits_brushes}
use Rattle.tree_session.proofs.planned.plan.Goals as goal

pub edit-requires-else-is_tree_command-clause-own : goal.edit-requires-else-is_tree_command-clause-own
edit-requires-else-is_tree_command-clause-own c = edits_brushes c.args.command.now c.requires.own (sym c.is_tree_command.ensures ∙ c.if-is_tree_command.false)
