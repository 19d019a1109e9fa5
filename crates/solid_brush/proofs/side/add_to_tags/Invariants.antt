use Rattle.std.proofs.Common.{◌≡◌, ◌++◌, map, take, drop}
use Rattle.solid_brush.specs.Sides.{with_base}
use Rattle.solid_brush.proofs.side.add_to_tags.Given as goal

abbrev pub invariant-loop-side : goal.invariant-loop-side
invariant-loop-side l = l.side-items ≡ map (with_base l.base) (take l.side-index l.initial.side-items) ++ drop l.side-index l.initial.side-items
