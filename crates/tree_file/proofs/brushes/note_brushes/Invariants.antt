use Rattle.std.proofs.Common.{◌≡◌, ◌++◌, take, flat_map}
use Rattle.file_laws.specs.Build.{brush_notes}
use Rattle.tree_file.proofs.brushes.note_brushes.Given as goal

abbrev pub invariant-loop-reading : goal.invariant-loop-reading
invariant-loop-reading l = l.notes.items ≡ l.fn.notes.items ++ flat_map brush_notes (take l.reading-index l.readings)
