use Rattle.std.proofs.Common.{◌≡◌, map, take, unwrap_or}
use Rattle.file_laws.specs.Build.{named_parent}
use Rattle.tree_file.proofs.parents.first_parents.Given as goal

abbrev pub invariant-loop-reading : goal.invariant-loop-reading
invariant-loop-reading l = l.parents.items ≡ map (λ r. unwrap_or (named_parent l.readings r) 0) (take l.reading-index l.readings)
