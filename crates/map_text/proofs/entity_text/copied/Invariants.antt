use Rattle.std.proofs.Common.{length, ◌-◌}
use Rattle.map_text.proofs.EntityTexts.{CopiedSoFar}
use Rattle.map_text.proofs.entity_text.copied.Given as goal

abbrev pub invariant-entries : goal.invariant-entries
invariant-entries l = CopiedSoFar l.props.entries l.copies.items

abbrev pub decreases-entries : goal.decreases-entries
decreases-entries l = length l.props.entries - length l.copies.items
