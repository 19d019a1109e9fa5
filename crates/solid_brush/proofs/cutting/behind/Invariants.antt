use Rattle.std.proofs.Common.{take}
use Rattle.half_poly.specs.Trims.{StandsForAll}
use Rattle.solid_brush.specs.Cutting.{all_planes}
use Rattle.solid_brush.proofs.cutting.behind.Given as goal

abbrev pub invariant-loop-side : goal.invariant-loop-side
invariant-loop-side l = StandsForAll (all_planes (take l.side-index l.sides)) l.poly
