use Rattle.tree_session.proofs.States.{carried}
use Rattle.tree_session.proofs.planned.change.Goals as goal

pub returns-in-Ok-clause-answer : goal.returns-in-Ok-clause-answer
returns-in-Ok-clause-answer c =
    carried c.args.settings.now c.args.command.now c.args.history.now.records c.args.map.now c.in-Ok.planned.change c.in-Ok.planned.reply c.carry_out.result
    c.carry_out.new.history.records c.carry_out.new.map c.in-Ok.ensures.planned c.carry_out.ensures.answer
