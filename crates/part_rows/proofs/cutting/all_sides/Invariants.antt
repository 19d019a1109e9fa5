use Rattle.std.proofs.Common.{◌≡◌, take}
use Rattle.csg_ops.specs.Cuts.{all_sides}
use Rattle.part_rows.proofs.cutting.all_sides.Given as goal

abbrev pub invariant-loop-solid : goal.invariant-loop-solid
invariant-loop-solid l = l.sides.items ≡ all_sides (take l.solid-index l.list)
