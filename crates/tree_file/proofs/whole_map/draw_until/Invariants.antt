use Rattle.std.proofs.Common.{◌≡◌}
use Rattle.tree_file.proofs.whole_map.draw_until.Given as goal

abbrev pub invariant-loop-number : goal.invariant-loop-number
invariant-loop-number l = l.change ≡ record l.fn.change { next = l.number }
