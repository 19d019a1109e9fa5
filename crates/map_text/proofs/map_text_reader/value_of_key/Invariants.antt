use Rattle.map_text.proofs.MapTexts.{NotYet}
use Rattle.map_text.proofs.map_text_reader.value_of_key.Given as goal

abbrev pub invariant-props : goal.invariant-props
invariant-props l = NotYet l.key l.props l.name-index
