use Rattle.std.proofs.Common.{◌≡◌, take, map}
use Rattle.vertex_edit.specs.Places.{place_of}
use Rattle.vertex_edit.proofs.moving.places_of.Given as goal

abbrev pub invariant-loop-point : goal.invariant-loop-point
invariant-loop-point l = l.places.items ≡ map (place_of l.picks l.shift) (take l.point-index l.points)
