use Rattle.std.proofs.Common.{◌≡◌, ◌++◌, map, filter, take}
use Rattle.file_laws.specs.Build.{place_of, is_dropped, kept_items, noted, EmptyNote}
use Rattle.tree_file.proofs.dropped.note_dropped.Given as goal

abbrev pub invariant-loop-item : goal.invariant-loop-item
invariant-loop-item l = l.notes.items ≡ l.fn.notes.items ++ noted EmptyNote (map place_of (filter (is_dropped (kept_items l.items)) (take l.item-index l.items)))
