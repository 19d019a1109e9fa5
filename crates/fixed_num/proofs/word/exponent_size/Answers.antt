use Rattle.std.proofs.Common.{sym, ◌∙◌}
use Rattle.fixed_num.proofs.Cuts.{all_digits_from_test}
use Rattle.fixed_num.proofs.word.exponent_size.Goals as goal

pub short_value-requires-clause-all_digits : goal.short_value-requires-clause-all_digits
short_value-requires-clause-all_digits c = all_digits_from_test _ (sym c.all_digits.ensures ∙ c.if-all_digits.true)
