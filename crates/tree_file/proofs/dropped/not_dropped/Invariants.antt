use Rattle.std.proofs.Common.{◌≡◌, not, filter, take, length}
use Rattle.file_laws.specs.Build.{is_dropped, kept_items}
use Rattle.tree_file.proofs.dropped.not_dropped.Given as goal

abbrev pub invariant-loop-item : goal.invariant-loop-item
invariant-loop-item l = l.kept.items ≡ filter (λ i. not (is_dropped (kept_items l.fn.items.items) i)) (take (length l.yielded) l.fn.items.items)
