use Rattle.std.proofs.Common.{◌≡◌, map, filter, take}
use Rattle.file_laws.specs.Build.{place_of, is_empty_group}
use Rattle.tree_file.proofs.empty.first_empty.Given as goal

abbrev pub invariant-loop-item : goal.invariant-loop-item
invariant-loop-item l = l.goes.items ≡ map place_of (filter (is_empty_group l.items) (take l.item-index l.items))
