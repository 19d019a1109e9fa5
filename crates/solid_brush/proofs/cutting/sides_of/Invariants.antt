use Rattle.std.proofs.Common.{◌≡◌, map, take}
use Rattle.solid_brush.specs.Cutting.{tagged}
use Rattle.solid_brush.proofs.cutting.sides_of.Given as goal

abbrev pub invariant-loop-face : goal.invariant-loop-face
invariant-loop-face l = map tagged l.sides.items ≡ take l.face l.poly
