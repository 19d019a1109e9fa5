use Rattle.std.proofs.Common.{◌≡◌, ◌++◌, drop}
use Rattle.map_write.specs.Written.{kept, entity_lines}
use Rattle.map_write.proofs.WriteLemmas.{numbered}
use Rattle.map_write.proofs.map_writer.write_map.Given as goal

abbrev pub invariant-loop-number : goal.invariant-loop-number
invariant-loop-number l = l.text.items ++ numbered (entity_lines kept) l.number (drop l.number l.entities) ≡ numbered (entity_lines kept) 0 l.entities
