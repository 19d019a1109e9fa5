use Rattle.std.proofs.Common.{◌≡◌, ◌++◌, ◌||◌, map, filter, take}
use Rattle.file_laws.specs.Build.{is_lost, breaks_ring, first_parents, noted, ParentNote}
use Rattle.tree_file.proofs.parents.note_parents.Given as goal

abbrev pub invariant-loop-reading : goal.invariant-loop-reading
invariant-loop-reading l =
    l.notes.items ≡ l.fn.notes.items ++ noted ParentNote (map (λ r. r.place) (filter (λ r. is_lost l.readings r || breaks_ring (first_parents l.readings) r.place) (take l.reading-index l.readings)))
