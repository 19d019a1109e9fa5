use Rattle.std.proofs.Common.{◌≡◌, length, map}
use Rattle.half_poly.specs.Places.{ArePlaces}
use Rattle.half_poly.proofs.places.put_places.Given as goal

abbrev pub invariant-loop-place : goal.invariant-loop-place
invariant-loop-place g l = (length l.table ≡ length l.initial.table) × ArePlaces (map g.Id.SlotId.place_of l.ids) l.table l.place
