use Rattle.std.proofs.Common.{◌≡◌, map, take, length}
use Rattle.file_laws.specs.Build.{item, first_parents}
use Rattle.tree_file.proofs.items.items_of.Given as goal

abbrev pub invariant-loop-reading : goal.invariant-loop-reading
invariant-loop-reading l = l.placed.items ≡ map (item l.fn.readings.items (first_parents l.fn.readings.items)) (take (length l.yielded) l.fn.readings.items)
