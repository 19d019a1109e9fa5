use Rattle.std.proofs.Common.{◌≡◌, map, take}
use Rattle.solid_brush.specs.declared.side.Side.{Side}
use Rattle.hull_plans.proofs.solids.planes_of.Given as goal

abbrev pub invariant-loop-side : goal.invariant-loop-side
invariant-loop-side l = l.planes.items ≡ map (λ (side : Side). side.plane) (take l.side-index l.sides)
