use Rattle.std.proofs.Common.{◌≡◌, ◌++◌, map, take, filter}
use Rattle.file_laws.specs.Build.{is_nameless, noted, IdNote}
use Rattle.tree_file.proofs.parents.note_ids.Given as goal

abbrev pub invariant-loop-reading : goal.invariant-loop-reading
invariant-loop-reading l = l.notes.items ≡ l.fn.notes.items ++ noted IdNote (map (λ r. r.place) (filter (is_nameless l.readings) (take l.reading-index l.readings)))
