use Rattle.std.proofs.Common.{◌≡◌, ◌++◌, take}
use Rattle.file_laws.specs.Build.{brush_notes_from}
use Rattle.tree_file.proofs.brushes.note_brushes_of.Given as goal

abbrev pub invariant-loop-outcome : goal.invariant-loop-outcome
invariant-loop-outcome l = record {
  brush : l.brush ≡ l.outcome-index;
  notes : l.notes.items ≡ l.fn.notes.items ++ brush_notes_from l.reading.place 0 (take l.outcome-index l.reading.brushes);
}
