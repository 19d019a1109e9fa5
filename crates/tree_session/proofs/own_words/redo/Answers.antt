use Rattle.std.proofs.Common.{ap}
use Rattle.tree_session.proofs.States.{redone, not_redone_by}
use Rattle.tree_session.proofs.own_words.redo.Goals as goal

pub returns-then-redo-clause-answer : goal.returns-then-redo-clause-answer
returns-then-redo-clause-answer c = redone c.args.history.now.records c.args.map.now c.redo.new.self.records c.redo.new.map c.if-redo.ensures.on

pub returns-else-redo-clause-answer : goal.returns-else-redo-clause-answer
returns-else-redo-clause-answer c =
    not_redone_by c.args.history.now.records c.args.map.now c.redo.new.self.records c.redo.new.map c.if-redo.ensures.last
    (ap (λ l. l.records) c.if-redo.ensures.stays.0) c.if-redo.ensures.stays.1
