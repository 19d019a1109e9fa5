use Rattle.std.proofs.Common.{◌≡◌, map, take}
use Rattle.half_poly.specs.Names.{corner_id}
use Rattle.half_poly.proofs.names.ids_of.Given as goal

abbrev pub invariant-loop-corner : goal.invariant-loop-corner
invariant-loop-corner l = l.ids.items ≡ map corner_id (take l.corner-index l.corners)
