use Rattle.std.proofs.Common.{ap, ◌∙◌, rules}
use Rattle.fixed_num.specs.Shortest.{shortest_decimal}
use Rattle.fixed_num.proofs.Scales.{shortest_decimal_scaled}
use Rattle.fixed_num.proofs.nano.Nano.from_micro.Goals as goal

pub returns-clause-count : goal.returns-clause-count
returns-clause-count c = search rules

pub returns-clause-same_text : goal.returns-clause-same_text
returns-clause-same_text c = ap (shortest_decimal 9) (returns-clause-count c) ∙ shortest_decimal_scaled 6 3 c.args.micro
