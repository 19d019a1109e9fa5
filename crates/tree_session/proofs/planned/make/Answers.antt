use Rattle.undo_log.proofs.Steps.{leads_back}
use Rattle.tree_session.proofs.planned.make.Goals as goal

pub returns-clause-one_more : goal.returns-clause-one_more
returns-clause-one_more c =
    c.add.ensures.maps c.args.map.now c.swap.new.self c.requires.keeps
    (leads_back c.args.map.now c.swap.new.self c.args.change c.swap.new.c
    (record { now = c.swap.ensures.now; back = c.swap.ensures.back; slots = c.swap.ensures.slots; numbers = c.swap.ensures.numbers })
    c.requires.tight c.requires.sound c.requires.has_slots)
