use Rattle.std.proofs.Common.{◌≡◌, ◌++◌, length, take}
use Rattle.touch_index.specs.Joined.{retagged}
use Rattle.touch_index.proofs.joining.add_sides.Given as goal

abbrev pub invariant-loop-side : goal.invariant-loop-side
invariant-loop-side l = l.sides.items ≡ l.fn.sides.items ++ retagged (length l.fn.sides.items) (take l.side-index l.more)
