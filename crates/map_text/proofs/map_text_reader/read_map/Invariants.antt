use Rattle.std.proofs.Common.{length}
use Rattle.map_text.proofs.MapTexts.{MapSoFar, start_of}
use Rattle.map_text.proofs.map_text_reader.read_map.Given as goal

abbrev pub invariant-entities : goal.invariant-entities
invariant-entities l = MapSoFar (start_of l.text) l.reader l.entities.items

abbrev pub decreases-entities : goal.decreases-entities
decreases-entities l = length l.reader.left.tokens
