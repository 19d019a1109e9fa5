use Rattle.half_poly.proofs.Listed.{places_put}
use Rattle.half_poly.proofs.places.put_places.Goals as goal

pub loop-place-preserved : goal.loop-place-preserved
loop-place-preserved g c =
    places_put g.Id.SlotId.place_of c.args.ids.now c.args.table.now c.loop-place.table c.put_number.new.table c.loop-place.place c.index-ids-place.result c.place.result c.loop-place-test.true c.index-ids-place.is c.place.ensures
    c.put_number.ensures c.requires.distinct c.requires.within c.loop-place.invariant
