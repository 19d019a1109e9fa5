use Rattle.std.proofs.Common.{sym, arith}
use Rattle.fixed_num.proofs.Kept.{squeezed-small, squeezed-great}
use Rattle.fixed_num.proofs.scale.squeezed.Goals as goal

pub returns-then-count-lt-EXACT_BELOW-clause-value : goal.returns-then-count-lt-EXACT_BELOW-clause-value
returns-then-count-lt-EXACT_BELOW-clause-value c = sym (squeezed-small c.args.count (omega arith))

pub returns-else-count-lt-EXACT_BELOW-clause-value : goal.returns-else-count-lt-EXACT_BELOW-clause-value
returns-else-count-lt-EXACT_BELOW-clause-value c = sym (squeezed-great c.args.count (omega arith))
