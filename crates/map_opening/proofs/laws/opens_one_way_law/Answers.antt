use Rattle.map_opening.proofs.Ways.{one_way}
use Rattle.map_opening.proofs.laws.opens_one_way_law.Goals as goal

pub returns : goal.returns
returns c = one_way c.one_reading_law.ensures
