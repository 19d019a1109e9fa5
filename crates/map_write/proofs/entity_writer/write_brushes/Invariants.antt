use Rattle.std.proofs.Common.{◌≡◌, ◌++◌, drop}
use Rattle.map_write.specs.Written.{kept, brush_lines}
use Rattle.map_write.proofs.WriteLemmas.{numbered}
use Rattle.map_write.proofs.entity_writer.write_brushes.Given as goal

abbrev pub invariant-loop-number : goal.invariant-loop-number
invariant-loop-number l = l.text.items ++ numbered (brush_lines kept) l.number (drop l.number l.brushes) ≡ l.fn.text.items ++ numbered (brush_lines kept) 0 l.brushes
