use Rattle.std.proofs.Common.{◌≡◌, ◌++◌, map, drop}
use Rattle.map_lex.specs.LineTexts.{text_of}
use Rattle.map_write.specs.Written.{property_line}
use Rattle.map_write.proofs.entity_writer.write_properties.Given as goal

abbrev pub invariant-loop-property : goal.invariant-loop-property
invariant-loop-property l = l.text.items ++ text_of (map property_line (drop l.property-index l.props)) ≡ l.fn.text.items ++ text_of (map property_line l.props)
