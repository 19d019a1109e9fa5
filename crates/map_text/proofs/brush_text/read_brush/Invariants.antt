use Rattle.std.proofs.Common.{length}
use Rattle.map_text.proofs.BrushTexts.{BrushSoFar}
use Rattle.map_text.proofs.brush_text.read_brush.Given as goal

abbrev pub invariant-faces : goal.invariant-faces
invariant-faces l = BrushSoFar l.fn.reader l.reader l.is_first l.brush

abbrev pub decreases-faces : goal.decreases-faces
decreases-faces l = length l.reader.left.tokens
