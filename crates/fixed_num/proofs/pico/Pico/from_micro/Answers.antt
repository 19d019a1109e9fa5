use Rattle.std.proofs.Common.{ap, ◌∙◌, rules}
use Rattle.fixed_num.specs.Shortest.{shortest_decimal}
use Rattle.fixed_num.proofs.Scales.{shortest_decimal_scaled}
use Rattle.fixed_num.proofs.pico.Pico.from_micro.Goals as goal

pub returns-clause-count : goal.returns-clause-count
returns-clause-count c = search rules

pub returns-clause-same_text : goal.returns-clause-same_text
returns-clause-same_text c = ap (shortest_decimal 12) (returns-clause-count c) ∙ shortest_decimal_scaled 6 6 c.args.micro
