use Rattle.std.proofs.Common.{length}
use Rattle.map_text.proofs.EntityTexts.{EntitySoFar}
use Rattle.map_text.proofs.entity_text.read_entity.Given as goal

abbrev pub invariant-items : goal.invariant-items
invariant-items l = EntitySoFar l.fn.reader l.reader l.props.entries l.brushes.items

abbrev pub decreases-items : goal.decreases-items
decreases-items l = length l.reader.left.tokens
