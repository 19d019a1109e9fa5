use Rattle.std.proofs.Common.{Some, ap, sym, ◌∙◌}
use Rattle.tree_file.proofs.Kept.{id_some, id_zero, id_none}
use Rattle.tree_file.proofs.numbers.read_id.Goals as goal

pub returns-then-number-eq0 : goal.returns-then-number-eq0
returns-then-number-eq0 c = id_zero c.args.text.now (ap Some (sym c.if-number-eq0.true) ∙ c.in-Some.ensures)

pub returns-else-number-eq0 : goal.returns-else-number-eq0
returns-else-number-eq0 c = id_some c.args.text.now c.in-Some.number c.in-Some.ensures c.if-number-eq0.false

pub returns-in-None : goal.returns-in-None
returns-in-None c = id_none c.args.text.now c.in-None.ensures
